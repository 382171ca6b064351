-- States that are alike but for the marks of their edges are visited alike (request #105).
use Rattle.std.specs.Prelude.{None, Some}
use mathlib.Core.Path.{◌≡◌, refl, ap, subst, ◌∙◌}
use mathlib.Core.List.{List}
use Prim.Native.Nat.{ℕ, ◌+◌}
use lib.Dec.{ltb}
use lib.IntN.{ℤ, ◌-ℤ◌}
use Rattle.axis.specs.Link.{Link}
use Rattle.axis.specs.Link.{Blue}
use Rattle.axis.specs.declared.kinds.Group.{Group}
use Rattle.axis.specs.declared.kinds.Group.TheVariants.{Default, Cjk}
use Rattle.axis.specs.declared.kinds.Mark.{Mark}
use Rattle.axis.specs.declared.kinds.Mark.TheVariants.{Anchor}
use Rattle.axis.specs.declared.edge.Edge.{Edge}
use Rattle.axis.specs.declared.edge.Axis.{Axis}
use Rattle.axis.specs.Edge.{edge_at, put_edge, finished}
use Rattle.axis.proofs.Alike.{Alike, AlikeAxis, finished-alike, fixed_alike, at-alike, put-alike, cond-alike}
use Rattle.fixed.specs.declared.width.WidthRule.{WidthRule}
use Rattle.place.specs.declared.adjust.LinkDir.TheVariants.{Prev}
use Rattle.place.proofs.Alike.{linked-alike, adjusted-alike}
use Rattle.stems_latin.specs.Latin.{anchored_first, anchored_second}
use Rattle.stems_cjk.specs.declared.stem.Stem.{Stem}
use Rattle.stems_cjk.specs.Cjk.{stem_of}
use Rattle.stems_cjk.proofs.Alike.{stem-same, hinted-alike}
use Rattle.stems.specs.declared.kinds.Mode.{Mode}
use Rattle.stems.specs.declared.kinds.Trail.{Trail}
use Rattle.stems.specs.Visit.{too_close, original_len, width_of, start_beside, delta_after}
use Rattle.stems.proofs.Alike.{close-same}
use Rattle.stems.specs.Stems.{
  State,
  counted,
  fix_at,
  fix_by_link,
  both_done,
  beside_anchor,
  free_pos,
  first_stem,
  latin_stem,
  back_stem,
  second_pos,
  normal_stem,
  cjk_stem,
  group_stem,
}
use Rattle.stems.specs.Stems.{zone_stem, visit_link, visit}

-- two states are alike
pub record AlikeState (s t : State) : Type 0 where
  pub axis : AlikeAxis s.axis t.axis
  pub count : s.count ≡ t.count
  pub anchor : s.anchor ≡ t.anchor
  pub trail : s.trail ≡ t.trail

-- ---- stores
module _ (a b : Axis) (alike : AlikeAxis a b) where
  at : (i : ℕ) → Alike (edge_at a i) (edge_at b i)
  at i = at-alike a b i alike

  fixed : (i : ℕ) (p q : ℤ) (m : Mark) → p ≡ q → AlikeAxis (fix_at a i p m) (fix_at b i q m)
  fixed i p q m e = put-alike a b i _ _ alike (fixed_alike _ _ p q m m (at i) e)

  done : (i : ℕ) → AlikeAxis (put_edge a i (finished (edge_at a i))) (put_edge b i (finished (edge_at b i)))
  done i = put-alike a b i _ _ alike (finished-alike _ _ (at i))

module _ (a b : Axis) (alike : AlikeAxis a b) (i k : ℕ) where
  abbrev here : Alike (edge_at a i) (edge_at b i)
  here = at a b alike i

  abbrev there : Alike (edge_at a k) (edge_at b k)
  there = at a b alike k

  both-done : AlikeAxis (both_done i k a) (both_done i k b)
  both-done = done _ _ (done a b alike i) k

  module _ (rule : WidthRule) (xs : List ℤ) where
    by-link : AlikeAxis (fix_by_link rule xs a i k) (fix_by_link rule xs b i k)
    by-link = put-alike a b i _ _ alike (finished-alike _ _ (linked-alike rule xs _ _ _ _ there here))

    beside : (n : ℕ) → AlikeAxis (beside_anchor rule xs a i k n) (beside_anchor rule xs b i k n)
    unfolding beside_anchor
    beside n =
        let anchor = at a b alike n in
        cond-alike AlikeAxis _ _ _ _ _ _ (λ j. (there.same j).flags.done)
        (fixed a b alike i _ _ _ (λ j. (there.same j).pos -ℤ width_of rule xs (here.same j) (there.same j)))
        (fixed _ _
        (fixed a b alike i _ _ _
        (λ j. anchored_first (start_beside (anchor.same j) (here.same j)) (original_len (here.same j) (there.same j))
        (width_of rule xs (here.same j) (there.same j))))
        k _ _ _
        (λ j. anchored_second (start_beside (anchor.same j) (here.same j)) (original_len (here.same j) (there.same j))
        (width_of rule xs (here.same j) (there.same j))))

    first : (p q : ℤ) → p ≡ q → AlikeAxis (first_stem rule xs a i k p) (first_stem rule xs b i k q)
    first p q e =
        let one = fixed a b alike i p q _ e in
        put-alike _ _ k _ _ one (linked-alike rule xs _ _ _ _ (fixed_alike _ _ p q Anchor Anchor here e) (at _ _ one k))

-- ---- visits
module _ (m : Mode) (xs : List ℤ) (s t : State) (h : AlikeState s t) (i : ℕ) where
  abbrev own : Alike (edge_at s.axis i) (edge_at t.axis i)
  own = at s.axis t.axis h.axis i

  module _ (k : ℕ) where
    abbrev link : Alike (edge_at s.axis k) (edge_at t.axis k)
    link = at s.axis t.axis h.axis k

    latin : (l : Link) → AlikeState (latin_stem m xs s i k l) (latin_stem m xs t i k l)
    unfolding latin_stem
    latin (Some a) = record {
      axis = adjusted-alike _ _ (beside s.axis t.axis h.axis i k m.rule xs a) i Prev;
      count = h.count;
      anchor = h.anchor;
      trail = h.trail;
    }
    latin None = record {
      axis = first s.axis t.axis h.axis i k m.rule xs _ _ (λ j. free_pos m.rule xs (own.same j) (link.same j));
      count = h.count;
      anchor = refl;
      trail = h.trail;
    }

    back : AlikeState (back_stem m xs s i k) (back_stem m xs t i k)
    back = record {
      axis = by-link s.axis t.axis h.axis i k m.rule xs;
      count = h.count;
      anchor = h.anchor;
      trail = λ j. record { last = Some (own.same j).pos; delta = (h.trail j).delta };
    }

    -- the stem of the two edges
    abbrev stem : State → Stem
    stem r = stem_of m.dim m.stem_adjust m.rule xs (edge_at r.axis i) (edge_at r.axis k) r.trail.delta

    stem-is : stem s ≡ stem t
    stem-is =
        stem-same m.dim m.stem_adjust m.rule xs _ _ _ _ s.trail.delta own link
        ∙ ap (λ (r : Trail). stem_of m.dim m.stem_adjust m.rule xs (edge_at t.axis i) (edge_at t.axis k) r.delta) h.trail

    normal : (p : Stem) → AlikeState (normal_stem m s i k p) (normal_stem m t i k p)
    normal p = record {
      axis = both-done _ _ (hinted-alike s.axis t.axis h.axis i k p) i k;
      count = h.count;
      anchor = refl;
      trail =
          λ j. record {
            last = Some (second_pos (own.same j) (link.same j) p);
            delta = delta_after m.dim (h.anchor j) (h.trail j).delta
                p.delta;
          };
    }

    cjk : AlikeState (cjk_stem m xs s i k) (cjk_stem m xs t i k)
    unfolding cjk_stem
    cjk =
        cond-alike AlikeState (ltb k i) (ltb k i) _ _ _ _ refl back
        (subst (λ (p : Stem). AlikeState (normal_stem m s i k (stem s)) (normal_stem m t i k p)) stem-is (normal (stem s)))

    by-group : (g : Group) → AlikeState (group_stem g m xs s i k) (group_stem g m xs t i k)
    unfolding group_stem
    by-group Default = subst (λ (l : Link). AlikeState (latin_stem m xs s i k s.anchor) (latin_stem m xs t i k l)) h.anchor (latin s.anchor)
    by-group Cjk = cjk

    by-zone : (b : Blue) → AlikeState (zone_stem b m xs s i k) (zone_stem b m xs t i k)
    unfolding zone_stem
    by-zone None = by-group m.group
    by-zone (Some z) = record { axis = by-link s.axis t.axis h.axis i k m.rule xs; count = h.count; anchor = h.anchor; trail = h.trail }

    close-is : too_close m.group s.trail.last (edge_at s.axis i) (edge_at s.axis k)
        ≡ too_close m.group t.trail.last (edge_at t.axis i) (edge_at t.axis k)
    close-is =
        close-same m.group s.trail.last _ _ _ _ own link
        ∙ ap (λ (r : Trail). too_close m.group r.last (edge_at t.axis i) (edge_at t.axis k)) h.trail

  over : AlikeState (counted s) (counted t)
  over = record { axis = h.axis; count = ap (λ (n : ℕ). n + 1) h.count; anchor = h.anchor; trail = h.trail }

  linked : (l : Link) → AlikeState (visit_link m xs s i l) (visit_link m xs t i l)
  unfolding visit_link
  linked None = over
  linked (Some k) =
      cond-alike AlikeState _ _ _ _ _ _ (close-is k) over
      (subst (λ (b : Blue). AlikeState (zone_stem (edge_at s.axis k).blue m xs s i k) (zone_stem b m xs t i k)) (ap (λ (e : Edge). e.blue) (link k).same)
      (by-zone k (edge_at s.axis k).blue))

  pub visit-alike : AlikeState (visit m xs s i) (visit m xs t i)
  unfolding visit
  visit-alike =
      cond-alike AlikeState _ _ s _ t _ (λ j. (own.same j).flags.done) h
      (subst (λ (l : Link). AlikeState (visit_link m xs s i (edge_at s.axis i).link) (visit_link m xs t i l)) (ap (λ (e : Edge). e.link) own.same)
      (linked (edge_at s.axis i).link))
