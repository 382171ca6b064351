-- Request #102, the visit: with Snap a stem that has a width is placed at least a pixel wide, before the neighbour bound, in every branch, for every axis and
-- every index.
use Rattle.std.specs.Prelude.{None, Some}
use mathlib.Core.Path.{◌≡◌, refl, sym, ap, subst, ◌∙◌}
use mathlib.Core.List.{List, [], ◌∷◌}
use mathlib.Core.Logic.{inl, inr}
use Prim.Native.Nat.{ℕ, zero, suc, ◌<◌}
use lib.Dec.{ltb}
use lib.ListN.{length, get_or, set}
use lib.Seq.{get_or-set_other}
use lib.IntN.{ℤ, ◌-ℤ◌}
use Rattle.signed.proofs.Choices.{cond-false, either_way}
use Rattle.fixed.specs.declared.width.WidthRule.{WidthRule}
use Rattle.fixed.specs.declared.width.WidthRule.TheVariants.{Snap}
use Rattle.fixed.specs.Width.{fitted_width}
use Rattle.axis.specs.Link.{Link}
use Rattle.axis.specs.Link.{Blue}
use Rattle.axis.specs.declared.kinds.Group.{Group}
use Rattle.axis.specs.declared.kinds.Group.TheVariants.{Default, Cjk}
use Rattle.axis.specs.declared.kinds.Mark.TheVariants.{Anchor}
use Rattle.axis.specs.declared.edge.Edge.{Edge}
use Rattle.axis.specs.declared.edge.Axis.{Axis}
use Rattle.axis.specs.Edge.{empty_edge, edge_at, finished, fixed_at}
use Rattle.place.specs.Placing.{linked_edge}
use Rattle.place.specs.Thin.{PixelApart, HasWidth}
use Rattle.place.proofs.Thin.{apart-before, swapped, fitted-pixel, turned, linked-apart, Seen, two_edges, put_one, put_both, seen-both-ways}
use Rattle.stems_latin.proofs.Drawn.{drawn-apart}
use Rattle.stems_cjk.specs.Cjk.{stem_of, hinted_stem}
use Rattle.stems_cjk.proofs.Thin.{hinted-seen}
use Rattle.stems.specs.declared.kinds.Mode.{Mode}
use Rattle.stems.specs.Visit.{too_close, original_len, start_beside}
use Rattle.stems.specs.Stems.{
  State,
  counted,
  fix_by_link,
  both_done,
  beside_anchor,
  free_pos,
  first_stem,
  latin_stem,
  cjk_stem,
  group_stem,
  zone_stem,
  visit_link,
  visit,
}
use Rattle.stems.specs.Thin.{VisitedStem, NotVanishing}
use Rattle.stems.proofs.Centre.{linked-place}

-- an edge that becomes done stays where it is
done-pos : (es : List Edge) (i k : ℕ) → (get_or (set es i (finished (get_or es i empty_edge))) k empty_edge).pos ≡ (get_or es k empty_edge).pos
done-pos [] i k = refl
done-pos (e ∷ es) zero zero = refl
done-pos (e ∷ es) zero (suc k) = refl
done-pos (e ∷ es) (suc i) zero = refl
done-pos (e ∷ es) (suc i) (suc k) = done-pos es i k

seen_done : (es : List Edge) (j i k : ℕ) → Seen es i k → Seen (set es j (finished (get_or es j empty_edge))) i k
seen_done es j i k s = record { apart = rw (done-pos es j i, done-pos es j k) s.apart }

-- ---- each way to place the stem of edge i and its link k
module _ (xs : List ℤ) (axis : Axis) (i k : ℕ) (hi : i < length axis.edges) (hk : k < length axis.edges)
    (w : HasWidth xs (edge_at axis i).opos (edge_at axis k).opos) where
  abbrev SeenIn : Axis → Type 0
  SeenIn a = Seen a.edges i k

  abbrev e : Edge
  e = edge_at axis i

  abbrev e2 : Edge
  e2 = edge_at axis k

  two : i ≡ k → ⊥
  two = two_edges axis.edges xs i k w

  -- beside an anchor, before the bound
  pub beside-seen : (a : ℕ) → SeenIn (beside_anchor Snap xs axis i k a)
  unfolding beside_anchor
  beside-seen a =
      let wide = fitted_width Snap xs (original_len e e2) in
      let thick = fitted-pixel xs e.opos e2.opos w in
      either_way SeenIn e2.flags.done _ _
      (seen-both-ways _ k i (put_one axis.edges k i _ hi (λ q. two (sym q)) (swapped (e2.pos -ℤ wide) e2.pos (apart-before e2.pos wide thick))))
      (put_both axis.edges i k _ _ hi hk two (drawn-apart (start_beside (edge_at axis a) e) (original_len e e2) wide thick))

  -- the first stem
  pub first-seen : (p : ℤ) → SeenIn (first_stem Snap xs axis i k p)
  first-seen p =
      let same-edge = get_or-set_other axis.edges i k (fixed_at e p Anchor) empty_edge (λ q. two (sym q)) in
      put_both axis.edges i k _ _ hi hk two
      (subst (λ (f : Edge). PixelApart p (linked_edge Snap xs (fixed_at e p Anchor) f).pos) (sym same-edge) (linked-apart xs p e.opos e2.opos w))

  -- by its link alone: a CJK stem whose second edge is in front, and an edge whose link is on a zone
  pub linked-seen : SeenIn (fix_by_link Snap xs axis i k)
  linked-seen =
      seen-both-ways _ k i (put_one axis.edges k i _ hi (λ q. two (sym q))
      (linked-apart xs e2.pos e2.opos e.opos (turned xs e.opos e2.opos w)))

-- ---- the visit
module _ (m : Mode) (xs : List ℤ) (s : State) (i k : ℕ) (h : VisitedStem m xs s i k) where
  abbrev Shown : State → Type 0
  Shown = NotVanishing m xs s i k

  own-place : i < length s.axis.edges
  own-place = linked-place s.axis.edges i k h.link

  -- what is seen with Snap is seen with the rule given
  ruled : (axis : WidthRule → Axis) → Seen (axis Snap).edges i k → Seen (axis m.rule).edges i k
  ruled axis = subst (λ (r : WidthRule). Seen (axis r).edges i k) (sym h.rule)

  -- an axis that the state has
  without-bound : (t : State) → Seen t.axis.edges i k → Shown t
  without-bound t p = record { before = t.axis; visited = inl refl; apart = p.apart }

  by-link : Seen (fix_by_link m.rule xs s.axis i k).edges i k
  by-link = ruled (λ (r : WidthRule). fix_by_link r xs s.axis i k) (linked-seen xs s.axis i k own-place h.place h.has_width)

  latin-shown : (l : Link) → Shown (latin_stem m xs s i k l)
  unfolding latin_stem
  latin-shown (Some a) = record {
    before = beside_anchor m.rule xs s.axis i k a;
    visited = inr (record { anchor = a; beside = refl; bound = refl });
    apart = (ruled (λ (r : WidthRule). beside_anchor r xs s.axis i k a) (beside-seen xs s.axis i k own-place h.place h.has_width a)).apart;
  }
  latin-shown None =
      without-bound _
      (ruled (λ (r : WidthRule). first_stem r xs s.axis i k (free_pos m.rule xs (edge_at s.axis i) (edge_at s.axis k)))
      (first-seen xs s.axis i k own-place h.place h.has_width _))

  -- both edges done, where `hint_normal_stem_cjk` puts them
  normal-seen : Seen (both_done i k (hinted_stem s.axis i k
      (stem_of m.dim m.stem_adjust m.rule xs (edge_at s.axis i) (edge_at s.axis k) s.trail.delta))).edges i k
  normal-seen =
      let p = ruled (λ (r : WidthRule). hinted_stem s.axis i k
      (stem_of m.dim m.stem_adjust r xs (edge_at s.axis i) (edge_at s.axis k) s.trail.delta))
      (hinted-seen s.axis m.dim m.stem_adjust xs i k s.trail.delta own-place h.place h.has_width) in
      seen_done _ k i k (seen_done _ i i k p)

  cjk-shown : Shown (cjk_stem m xs s i k)
  unfolding cjk_stem
  cjk-shown = either_way Shown (ltb k i) _ _ (without-bound _ by-link) (without-bound _ normal-seen)

  group-shown : (g : Group) → Shown (group_stem g m xs s i k)
  unfolding group_stem
  group-shown Default = latin-shown s.anchor
  group-shown Cjk = cjk-shown

  zone-shown : (b : Blue) → Shown (zone_stem b m xs s i k)
  unfolding zone_stem
  zone-shown None = group-shown m.group
  zone-shown (Some z) = without-bound _ by-link

  by-zone : visit m xs s i ≡ zone_stem (edge_at s.axis k).blue m xs s i k
  unfolding visit visit_link
  by-zone =
      cond-false (edge_at s.axis i).flags.done s (visit_link m xs s i (edge_at s.axis i).link) h.not_done
      ∙ ap (visit_link m xs s i) h.link
      ∙ cond-false (too_close m.group s.trail.last (edge_at s.axis i) (edge_at s.axis k)) (counted s) _ h.not_close

  pub not_vanishing : Shown (visit m xs s i)
  not_vanishing = subst Shown (sym by-zone) (zone-shown (edge_at s.axis k).blue)
