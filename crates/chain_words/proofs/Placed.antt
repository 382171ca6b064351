-- Where the calls that place one edge or a CJK stem can bring a position, with answer 0: within the reach that every sum fits 32 bits in. And which edges they
-- name.
use Rattle.std.specs.Prelude.{None, Some}
use mathlib.Core.Path.{◌≡◌, refl, sym, subst}
use mathlib.Core.Bool.{Bool}
use mathlib.Core.List.{List}
use Prim.Native.Nat.{ℕ, zero, suc, ◌<◌}
use native.Mathlib.Omega.{arith}
use borrow.Author.Tests.{ltb-true}
use lib.IntN.{ℤ, pos, ◌+ℤ◌, ◌-ℤ◌}
use lib.Signed.{lt_z}
use Rattle.signed.specs.Range.{Between}
use Rattle.signed.proofs.Choices.{either_way}
use Rattle.signed.proofs.Signed.{add-law, sub-law}
use Rattle.refusals.specs.Refusal.{refusal}
use Rattle.refusals.proofs.Answers.{none-refused, worked}
use Rattle.refusals.proofs.Tests.{AllHold, all_hold}
use Rattle.fixed.specs.declared.width.WidthRule.{WidthRule}
use Rattle.fixed.specs.Width.{fitted_width}
use Rattle.axis.specs.Link.{Link}
use Rattle.axis.specs.declared.edge.Axis.{Axis}
use Rattle.axis.specs.Accepted.{Below, AxisWithin}
use Rattle.axis.specs.Edge.{edge_at, put_edge}
use Rattle.axis.specs.Limits.{most_pos, most_passed}
use Rattle.axis.proofs.Acceptance.{within-between, axis-within}
use Rattle.place.specs.declared.adjust.LinkDir.{LinkDir}
use Rattle.place.specs.Placing.{linked_pos, linked_edge, serif_pos, serif_edge, is_far, has_passed, neighbour, held_to, bound_by, adjusted}
use Rattle.place.specs.Steps.{most_reach, InReach}
use Rattle.place.proofs.Neighbours.{neighbour-below}
use Rattle.place.proofs.Reach.{below-first, below-second, in_reach, width-range}
use Rattle.zones.proofs.Kept.{within_more, put-within}
use Rattle.stems_cjk.specs.declared.stem.Stem.{Stem}
use Rattle.stems_cjk.specs.Cjk.{stem_of, placed_stem, hinted_stem}
use Rattle.stems_cjk.proofs.Moves.{stem-pos-range, stem-width-range}
use Rattle.place.specs.Answer.{Fitted}
use Rattle.place.specs.Fitting.{linked_tests, serif_tests, adjust_tests, fitted, align_linked_edge, align_serif_edge, adjust_link}
use Rattle.stems_cjk.specs.Answer.{StemCjk}
use Rattle.stems_cjk.specs.Hint.{hinted, stem_tests, hint_normal_stem_cjk}

-- ---- the linked edge
module _ (axis : Axis) (rule : WidthRule) (xs : List ℤ) (base stem : ℕ) (e : (align_linked_edge axis rule xs base stem).answer ≡ 0) where
  abbrev linked_work : Fitted
  linked_work = fitted (put_edge axis stem (linked_edge rule xs (edge_at axis base) (edge_at axis stem))) 0

  linked-none : refusal (linked_tests axis rule xs base stem) ≡ 0
  unfolding align_linked_edge
  linked-none = none-refused (fitted axis) linked_work (λ (f : Fitted). f.answer) (λ j. refl) (refusal (linked_tests axis rule xs base stem)) e

  linked-hold : AllHold (linked_tests axis rule xs base stem)
  linked-hold = all_hold (linked_tests axis rule xs base stem) refl linked-none

  pub linked-named : stem < axis.len
  linked-named = below-second axis.len base stem linked-hold.1.1.1.0

  pub linked-within : AxisWithin most_reach (align_linked_edge axis rule xs base stem).axis
  unfolding align_linked_edge linked_pos
  linked-within =
      let t = linked-hold in
      let w = axis-within axis t.0 t.1.1.0 t.1.1.1.1.0 in
      let b = w.edge base (below-first axis.len base stem t.1.1.1.0) in
      let s = w.edge stem linked-named in
      let bp = b.pos in
      let width = width-range rule xs (edge_at axis base).opos (edge_at axis stem).opos b.opos s.opos in
      subst (λ (f : Fitted). AxisWithin most_reach f.axis) (sym (worked (fitted axis) linked_work (refusal (linked_tests axis rule xs base stem)) linked-none))
      (put-within most_reach stem axis _ (within_more most_pos most_reach axis (omega arith) w) (record {
        opos = s.opos;
        pos = omega (arith, bp, width, add-law (edge_at axis base).pos (fitted_width rule xs ((edge_at axis stem).opos -ℤ (edge_at axis base).opos)));
        blue = s.blue;
        link = s.link;
        serif = s.serif;
      }))

-- ---- the serif edge
module _ (axis : Axis) (base serif : ℕ) (e : (align_serif_edge axis base serif).answer ≡ 0) where
  abbrev serif_work : Fitted
  serif_work = fitted (put_edge axis serif (serif_edge (edge_at axis base) (edge_at axis serif))) 0

  serif-none : refusal (serif_tests axis base serif) ≡ 0
  unfolding align_serif_edge
  serif-none = none-refused (fitted axis) serif_work (λ (f : Fitted). f.answer) (λ j. refl) (refusal (serif_tests axis base serif)) e

  serif-hold : AllHold (serif_tests axis base serif)
  serif-hold = all_hold (serif_tests axis base serif) refl serif-none

  pub serif-named : serif < axis.len
  serif-named = below-second axis.len base serif serif-hold.1.1.0

  pub serif_within : AxisWithin most_reach (align_serif_edge axis base serif).axis
  unfolding align_serif_edge serif_pos
  serif_within =
      let t = serif-hold in
      let w = axis-within axis t.0 t.1.0 t.1.1.1.0 in
      let b = w.edge base (below-first axis.len base serif t.1.1.0) in
      let s = w.edge serif serif-named in
      let bp = b.pos in
      let bo = b.opos in
      let so = s.opos in
      let far = (edge_at axis serif).opos -ℤ (edge_at axis base).opos in
      subst (λ (f : Fitted). AxisWithin most_reach f.axis) (sym (worked (fitted axis) serif_work (refusal (serif_tests axis base serif)) serif-none))
      (put-within most_reach serif axis _ (within_more most_pos most_reach axis (omega arith) w) (record {
        opos = s.opos;
        pos = omega (arith, bp, bo, so, add-law (edge_at axis base).pos far, sub-law (edge_at axis serif).opos (edge_at axis base).opos);
        blue = s.blue;
        link = s.link;
        serif = s.serif;
      }))

-- ---- the adjustment: an edge takes its neighbour's position
module _ (axis : Axis) (w : AxisWithin most_pos axis) where
  held-within : (h i k : ℕ) (l : Link) → i < axis.len → k < axis.len → AxisWithin most_pos (held_to axis h i k l)
  unfolding held_to
  held-within h i k None a b = w
  held-within h i k (Some l) a b =
      let e = w.edge i a in
      either_way (AxisWithin most_pos) (is_far (edge_at axis l).pos (edge_at axis h).pos) _ axis
      (put-within most_pos i axis _ w (record { opos = e.opos; pos = (w.edge k b).pos; blue = e.blue; link = e.link; serif = e.serif })) w

  bound-within : (h i : ℕ) (dir : LinkDir) (l : Link) → i < axis.len → Below axis.len l → AxisWithin most_pos (bound_by axis h i dir l)
  unfolding bound_by
  bound-within h i dir None a b = w
  bound-within h i dir (Some k) a b =
      either_way (AxisWithin most_pos) (has_passed dir (edge_at axis i).pos (edge_at axis k).pos) _ axis
      (held-within h i k (edge_at axis i).link a (b.at k refl)) w

  adjusted-within : (i : ℕ) (dir : LinkDir) → i < axis.len → AxisWithin most_pos (adjusted axis i dir)
  unfolding adjusted
  adjusted-within zero dir a = w
  adjusted-within (suc h) dir a = bound-within h (suc h) dir (neighbour dir axis (suc h)) a (neighbour-below dir axis (suc h) a)

module _ (axis : Axis) (i : ℕ) (dir : LinkDir) (ttb : Bool) (e : (adjust_link axis i dir ttb).answer ≡ 0) where
  adjust-none : refusal (adjust_tests axis i ttb) ≡ 0
  unfolding adjust_link
  adjust-none = none-refused (fitted axis) (fitted (adjusted axis i dir) 0) (λ (f : Fitted). f.answer) (λ j. refl) (refusal (adjust_tests axis i ttb)) e

  adjust-hold : AllHold (adjust_tests axis i ttb)
  adjust-hold = all_hold (adjust_tests axis i ttb) refl adjust-none

  pub adjust-named : i < axis.len
  adjust-named = ltb-true i axis.len adjust-hold.1.1.1.0

  pub adjust-within : AxisWithin most_pos (adjust_link axis i dir ttb).axis
  unfolding adjust_link
  adjust-within =
      let t = adjust-hold in
      subst (λ (f : Fitted). AxisWithin most_pos f.axis)
      (sym (worked (fitted axis) (fitted (adjusted axis i dir) 0) (refusal (adjust_tests axis i ttb)) adjust-none))
      (adjusted-within axis (axis-within axis t.0 t.1.1.0 t.1.1.1.1.0) i dir adjust-named)

-- ---- the CJK stem
module _ (axis : Axis) (w : AxisWithin most_reach axis) where
  stem-within : (lower upper : ℕ) (p z : ℤ) → lower < axis.len → upper < axis.len → Between most_reach most_reach p → Between most_reach most_reach (p +ℤ z)
      → AxisWithin most_reach (placed_stem axis lower upper p z)
  unfolding placed_stem
  stem-within lower upper p z a b h g =
      let e = w.edge lower a in
      let one = put-within most_reach lower axis _ w (record { opos = e.opos; pos = h; blue = e.blue; link = e.link; serif = e.serif }) in
      let f = one.edge upper b in
      put-within most_reach upper _ _ one (record { opos = f.opos; pos = g; blue = f.blue; link = f.link; serif = f.serif })

  hinted-within : (i j : ℕ) (s : Stem) → i < axis.len → j < axis.len → Between most_reach most_reach s.pos → Between most_reach most_reach (s.pos +ℤ s.width)
      → AxisWithin most_reach (hinted_stem axis i j s)
  unfolding hinted_stem
  hinted-within i j s a b h g =
      either_way (AxisWithin most_reach) (lt_z (edge_at axis i).opos (edge_at axis j).opos) _ _ (stem-within i j s.pos s.width a b h g)
      (stem-within j i s.pos s.width b a h g)

module _ (axis : Axis) (adjust : Bool) (rule : WidthRule) (xs : List ℤ) (i j : ℕ) (d : ℤ) (e : (hint_normal_stem_cjk axis adjust rule xs i j d).answer ≡ 0) where
  abbrev stem : Stem
  stem = stem_of axis.dim adjust rule xs (edge_at axis i) (edge_at axis j) d

  abbrev stem_work : StemCjk
  stem_work = hinted (hinted_stem axis i j stem) stem.delta 0

  cjk-none : refusal (stem_tests axis rule xs i j d) ≡ 0
  unfolding hint_normal_stem_cjk
  cjk-none = none-refused (hinted axis (pos 0)) stem_work (λ (r : StemCjk). r.answer) (λ j. refl) (refusal (stem_tests axis rule xs i j d)) e

  cjk-hold : AllHold (stem_tests axis rule xs i j d)
  cjk-hold = all_hold (stem_tests axis rule xs i j d) refl cjk-none

  pub first-named : i < axis.len
  first-named = below-first axis.len i j cjk-hold.1.1.1.0

  pub second-named : j < axis.len
  second-named = below-second axis.len i j cjk-hold.1.1.1.0

  pub cjk-within : AxisWithin most_reach (hint_normal_stem_cjk axis adjust rule xs i j d).axis
  unfolding hint_normal_stem_cjk
  cjk-within =
      let t = cjk-hold in
      let w = axis-within axis t.0 t.1.1.0 t.1.1.1.1.0 in
      let a : InReach (edge_at axis i) = in_reach most_pos i axis (omega arith) w first-named in
      let b : InReach (edge_at axis j) = in_reach most_pos j axis (omega arith) w second-named in
      let p = stem-pos-range axis.dim adjust rule xs (edge_at axis i) (edge_at axis j) d a b (within-between most_passed d t.1.1.1.1.1.0) in
      let z = stem-width-range axis.dim adjust rule xs (edge_at axis i) (edge_at axis j) d a b in
      subst (λ (r : StemCjk). AxisWithin most_reach r.axis) (sym (worked (hinted axis (pos 0)) stem_work (refusal (stem_tests axis rule xs i j d)) cjk-none))
      (hinted-within axis (within_more most_pos most_reach axis (omega arith) w) i j stem first-named second-named (omega (arith, p))
      (omega (arith, p, z, add-law stem.pos stem.width)))
