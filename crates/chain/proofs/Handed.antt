-- What a call hands back with answer 0 is accepted by the calls behind it, whose own parameters are right: linking, building, blue zones, stems, the two in one
-- call, and the others beside; and what mending hands back.
use mathlib.Core.Path.{◌≡◌, refl, sym, ap, subst, ◌∙◌}
use mathlib.Core.Bool.{Bool, true, false, cond}
use mathlib.Core.List.{List}
use mathlib.Core.Logic.{◌⊎◌, inl, inr}
use Prim.Native.Nat.{ℕ}
use lib.Dec.{leb}
use lib.IntN.{ℤ}
use Rattle.refusals.specs.Refusal.{no_room, refusal}
use Rattle.fixed.specs.declared.width.WidthRule.{WidthRule}
use Rattle.fixed.specs.Width.{rule_holds}
use Rattle.axis.specs.declared.edge.Axis.{Axis}
use Rattle.axis.specs.declared.kinds.Direction.{Direction}
use Rattle.axis.specs.declared.kinds.Group.{Group}
use Rattle.axis.specs.declared.segment.Segments.{Segments}
use Rattle.axis.specs.Handed.{EdgesAccepted, Typed, TypedAxis}
use Rattle.axis.specs.Limits.{most_edges}
use Rattle.mend.specs.Altered.{alterations}
use Rattle.mend.specs.Mend.{Mended, mending_tests, mend}
use Rattle.mend.specs.Mended.{mended_axis, mended_segments}
use Rattle.mend.proofs.Determined as Mending
use Rattle.turn.specs.Turning.{turning_tests}
use Rattle.link.specs.Linking.{link_segments_cjk}
use Rattle.link.specs.Linking as L
use Rattle.link.proofs.Handed as Linking
use Rattle.build.specs.declared.numbers.Thresholds.{Thresholds}
use Rattle.build.specs.Building.{numbers_hold, products_hold, is_cjk, rules_of, last_state, compute_edges}
use Rattle.build.proofs.Handed as Building
use Rattle.place.proofs.Handed as Fitting
use Rattle.zones.specs.Call.{align_edges_to_blues}
use Rattle.zones.proofs.Handed as Blues
use Rattle.stems_cjk.proofs.Handed as Cjk
use Rattle.stems.specs.Stems.{align_stem_edges}
use Rattle.stems.proofs.Handed as Stems
use Rattle.zones_stems.proofs.Handed as Joined
use Rattle.lowercase_m.proofs.Handed as M
use Rattle.gaps.proofs.Determined as Gaps
use Rattle.chain.specs.Accepts.{Accepts}

-- ---- edges that are accepted
accepts : (axis : Axis) → EdgesAccepted axis → Accepts axis
accepts axis a = record {
  blues = λ group rule xs r. Blues.accepts axis group rule xs a r;
  linked = Fitting.linked-accepts axis a;
  serif = Fitting.serif-accepts axis a;
  bounds = Fitting.bounds-accepts axis a;
  adjust = Fitting.adjust-accepts axis a;
  cjk = λ adjust rule xs i j d r b w. Cjk.accepts axis adjust rule xs i j d a r b w;
  stems = λ group adjust anchor rule xs b r. Stems.accepts axis group adjust false anchor rule xs a refl b r;
  joined = λ group adjust rule xs r z. Joined.accepts axis group adjust false rule xs a refl r z;
  m = λ group c. M.accepts axis group a c;
  gaps = λ least linked h. Gaps.accepts axis least linked a h;
}

-- ---- linking
roomy : (full : Bool) (k : ℕ) → k ≡ cond full no_room 0 → (k ≡ 0) ⊎ (k ≡ no_room)
roomy true k e = inr e
roomy false k e = inl e

module _ (t : Segments) (dir : Direction) (upem scale : ℤ) (e : (link_segments_cjk t dir upem scale).answer ≡ 0) (c : Typed t) where
  abbrev linked : Segments
  linked = (link_segments_cjk t dir upem scale).segments

  -- what linking hands back, building refuses by 5 alone
  pub linked-built : (old : Axis) (group : Group) (at : ℤ) (by : Thresholds)
      → leb old.len most_edges ≡ true → numbers_hold at by ≡ true → products_hold (link_segments_cjk t dir upem scale).segments at ≡ true
      → ((compute_edges (link_segments_cjk t dir upem scale).segments old group false at by).answer ≡ 0)
      ⊎ ((compute_edges (link_segments_cjk t dir upem scale).segments old group false at by).answer ≡ no_room)
  linked-built old group at by few n p =
      roomy (last_state linked (rules_of old.dim old.major_dir (is_cjk group) at by)).full _
      (Building.accepts linked old group false at by (Linking.handed-on t dir upem scale e c) few refl n p)

  -- and linking accepts
  pub linked-linked : (major : Direction) (em at : ℤ) → L.numbers_hold em at ≡ true
      → (link_segments_cjk (link_segments_cjk t dir upem scale).segments major em at).answer ≡ 0
  linked-linked major em at n = Linking.accepts linked major em at (Linking.handed-on t dir upem scale e c) (Linking.nexts-handed-on t dir upem scale e) n

-- ---- building
module _ (t : Segments) (old : Axis) (group : Group) (ttb : Bool) (scale : ℤ) (by : Thresholds) (e : (compute_edges t old group ttb scale by).answer ≡ 0) where
  -- the edges that building hands back, every call over edges accepts
  pub built-accepted : Accepts (compute_edges t old group ttb scale by).axis
  built-accepted = accepts _ (Building.edges-handed-on t old group ttb scale by e)

  -- and its segments linking
  pub built-linked : (major : Direction) (em at : ℤ) → L.numbers_hold em at ≡ true
      → (link_segments_cjk (compute_edges t old group ttb scale by).segments major em at).answer ≡ 0
  built-linked major em at n =
      Linking.accepts _ major em at (Building.segments-handed-on t old group ttb scale by e) (Building.nexts-handed-on t old group ttb scale by e) n

-- ---- blue zones
module _ (axis : Axis) (group : Group) (rule : WidthRule) (xs : List ℤ) (e : (align_edges_to_blues axis group rule xs).answer ≡ 0) where
  -- the edges on their zones, every call over edges accepts
  pub zoned-accepted : Accepts (align_edges_to_blues axis group rule xs).axis
  zoned-accepted = accepts _ (Blues.handed-on axis group rule xs e)

  -- and stems the anchor with them
  pub zoned-stems : (g : Group) (adjust : Bool) (by : WidthRule) (ys : List ℤ) → rule_holds by ys ≡ true
      → (align_stem_edges (align_edges_to_blues axis group rule xs).axis g adjust false (align_edges_to_blues axis group rule xs).anchor by ys).answer ≡ 0
  zoned-stems g adjust by ys r = zoned-accepted.stems g adjust _ by ys (Blues.anchor-handed-on axis group rule xs e) r

-- ---- mending
module _ (axis : Axis) (t : Segments) (w : TypedAxis axis) (v : Typed t) (e : (mend axis t).answer ≡ 0) where
  none-refused : refusal (mending_tests axis t) ≡ 0
  none-refused = Mending.accepted axis t e

  abbrev handed : Mended
  handed =
      record {
        answer = 0;
        axis = mended_axis axis t;
        segments = mended_segments axis t;
        altered = alterations axis t (mended_axis axis t)
            (mended_segments axis t);
      }

  outcome : mend axis t ≡ handed
  outcome = Mending.when-accepted axis t none-refused

  -- the edges that mending hands back, every call over edges accepts
  pub mended-accepted : Accepts (mend axis t).axis
  mended-accepted = subst (λ (x : Mended). Accepts x.axis) (sym outcome) (accepts _ (Mending.edges-handed-on axis t w v none-refused))

  -- its segments linking
  pub mended-linked : (major : Direction) (em at : ℤ) → L.numbers_hold em at ≡ true → (link_segments_cjk (mend axis t).segments major em at).answer ≡ 0
  mended-linked major em at n =
      ap (λ (x : Mended). (link_segments_cjk x.segments major em at).answer) outcome
      ∙ Linking.accepts _ major em at (Mending.segments-handed-on axis t w v none-refused) (Mending.nexts-handed-on axis t w v none-refused) n

  -- and both the converter
  pub mended-turned : refusal (turning_tests (mend axis t).axis (mend axis t).segments) ≡ 0
  mended-turned = ap (λ (x : Mended). refusal (turning_tests x.axis x.segments)) outcome ∙ Mending.turns axis t w v none-refused
