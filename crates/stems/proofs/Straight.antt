-- A step, along one path by its plan, is a visit: the bound is `adjust_link` toward the previous edge, an edge placed by its link is `align_linked_edge`, and a
-- normal CJK stem is `hint_normal_stem_cjk`, self-links included.
use Rattle.std.specs.Prelude.{None, Some}
use mathlib.Core.Path.{◌≡◌, refl, sym, ap, ◌∙◌}
use mathlib.Core.Bool.{Bool, true, false, cond, ◌&&◌}
use mathlib.Core.List.{List, [], ◌∷◌}
use Prim.Native.Nat.{ℕ, zero, suc, ◌-◌}
use native.Mathlib.Omega.{arith}
use borrow.Author.Tests.{lt-ltb}
use lib.Dec.{ltb}
use lib.ListN.{get_or, set}
use lib.IntN.{ℤ, pos, ◌+ℤ◌, ◌-ℤ◌}
use lib.Signed.{lt_z}
use Rattle.signed.proofs.Signed.{same, add-law, sub-law}
use Rattle.fixed.specs.declared.width.WidthRule.{WidthRule}
use Rattle.fixed.specs.declared.width.WidthRule.TheVariants.{Keep, Snap}
use Rattle.fixed.specs.Width.{settled, snapped, lifted, fitted_width}
use Rattle.axis.specs.Link.{Link}
use Rattle.axis.specs.Link.{Blue}
use Rattle.axis.specs.declared.kinds.Group.{Group}
use Rattle.axis.specs.declared.kinds.Group.TheVariants.{Default, Cjk}
use Rattle.axis.specs.declared.kinds.Mark.{Mark}
use Rattle.axis.specs.declared.kinds.Mark.TheVariants as Marks
use Rattle.axis.specs.declared.edge.Edge.{Edge}
use Rattle.axis.specs.declared.edge.Axis.{Axis}
use Rattle.axis.specs.Link.{index_or}
use Rattle.axis.specs.Edge.{empty_edge, edge_at, put_edge, placed, finished, fixed_at}
use Rattle.axis.specs.Visits.{visits}
use Rattle.axis.proofs.Visits.{visits-same}
use Rattle.place.specs.declared.adjust.LinkDir.TheVariants.{Prev}
use Rattle.place.specs.Placing.{linked_pos, lower_bound, has_passed, is_far, neighbour, held_to, bound_by, adjusted}
use Rattle.stems_latin.specs.Latin.{anchored_first, anchored_second}
use Rattle.stems_cjk.specs.Cjk.{stem_at, stem_of, placed_stem, hinted_stem}
use Rattle.zones.proofs.Straight.{put_same, keeps}
use Rattle.stems.specs.declared.kinds.Mode.{Mode}
use Rattle.stems.specs.declared.kinds.Trail.{Trail}
use Rattle.stems.specs.declared.kinds.Plan.{Plan}
use Rattle.stems.specs.Visit.{too_close, width_of}
use Rattle.stems.specs.Plan.{
  linked_plan,
  behind_plan,
  centred_plan,
  anchored_plan,
  free_plan,
  latin_plan,
  fixed_plan,
  stem_plan,
  normal_plan,
  cjk_plan,
  group_plan,
  zone_plan,
}
use Rattle.stems.specs.Plan.{second_edge, held_edge, anchor_after}
use Rattle.stems.specs.Stems.{
  State,
  counted,
  fix_at,
  fix_by_link,
  both_done,
  centred_stem,
  beside_anchor,
  free_pos,
  first_stem,
  latin_stem,
  back_stem,
  normal_stem,
  cjk_stem,
}
use Rattle.stems.specs.Stems.{group_stem, zone_stem, visit_link, visit}
use Rattle.stems.specs.StepsPass.{held_put, carried_out, step_link, step}

-- ---- the bound
-- a store that is made where two tests hold
one_store : (axis : Axis) (i : ℕ) (e : Edge) (x y : Bool) → put_edge axis i (cond (x && y) e (edge_at axis i)) ≡ cond x (cond y (put_edge axis i e) axis) axis
one_store axis i e true true = refl
one_store axis i e true false = put_same axis i
one_store axis i e false y = put_same axis i

far-held : (axis : Axis) (h i k : ℕ) (l : Link) → l ≡ Some k
    → held_to axis h i h l ≡ cond (is_far (edge_at axis k).pos (edge_at axis h).pos) (put_edge axis i (placed (edge_at axis i) (edge_at axis h).pos Marks.Bound))
    axis
unfolding held_to
far-held axis h i k l e = rw e

-- the edge that a plan bounds, linked to edge k
bound-is-adjusted : (axis : Axis) (i k : ℕ) (plan : Plan) → plan.bounded ≡ true → (edge_at axis i).link ≡ Some k
    → held_put plan i k axis ≡ adjusted axis i Prev
unfolding held_edge adjusted bound_by neighbour lower_bound
bound-is-adjusted axis zero k plan h e = rw h (put_same axis zero)
bound-is-adjusted axis (suc j) k plan h e =
    let z : ltb 0 (suc j) ≡ true = lt-ltb 0 (suc j) (omega arith) in
    let p : suc j - 1 ≡ j = omega arith in
    rw (h, z, p) (one_store axis (suc j) _ (has_passed Prev (edge_at axis (suc j)).pos (edge_at axis j).pos) (is_far (edge_at axis k).pos (edge_at axis j).pos)
    ∙ ap (λ (u : Axis). cond (has_passed Prev (edge_at axis (suc j)).pos (edge_at axis j).pos) u axis) (sym (far-held axis j (suc j) k _ e)))

-- ---- stores that keep a field of every edge
link_of : Edge → Link
link_of e = e.link

opos_of : Edge → ℤ
opos_of e = e.opos

fix-keeps-link : (axis : Axis) (j i : ℕ) (p : ℤ) (m : Mark) → (edge_at (fix_at axis j p m) i).link ≡ (edge_at axis i).link
unfolding link_of
fix-keeps-link axis j i p m = keeps link_of axis.edges j i (fixed_at (edge_at axis j) p m) empty_edge refl

fix-keeps-opos : (axis : Axis) (j i : ℕ) (p : ℤ) (m : Mark) → (edge_at (fix_at axis j p m) i).opos ≡ (edge_at axis i).opos
unfolding opos_of
fix-keeps-opos axis j i p m = keeps opos_of axis.edges j i (fixed_at (edge_at axis j) p m) empty_edge refl

-- ---- the normal CJK stem
-- an edge of a list changed, in its place
abbrev changed_at : (Edge → Edge) → ℕ → List Edge → List Edge
changed_at f i es = set es i (f (get_or es i empty_edge))

abbrev moved : ℤ → Edge → Edge
moved p e = placed e p Marks.Stem

abbrev fixed : ℤ → Edge → Edge
fixed p e = fixed_at e p Marks.Stem

moved-then-done : (es : List Edge) (i : ℕ) (p : ℤ) → changed_at finished i (changed_at (moved p) i es) ≡ changed_at (fixed p) i es
moved-then-done [] i p = refl
moved-then-done (e ∷ es) zero p = refl
moved-then-done (e ∷ es) (suc i) p = ap (λ (l : List Edge). e ∷ l) (moved-then-done es i p)

-- both edges are moved, one after the other, and then done; or each is moved and done
rising : (es : List Edge) (i k : ℕ) (p q : ℤ)
    → changed_at (fixed q) k (changed_at (fixed p) i es) ≡ changed_at finished k (changed_at finished i (changed_at (moved q) k (changed_at (moved p) i es)))
rising [] i k p q = refl
rising (e ∷ es) zero zero p q = refl
rising (e ∷ es) zero (suc k) p q = ap (λ (l : List Edge). fixed p e ∷ l) (sym (moved-then-done es k q))
rising (e ∷ es) (suc i) zero p q = ap (λ (l : List Edge). fixed q e ∷ l) (sym (moved-then-done es i p))
rising (e ∷ es) (suc i) (suc k) p q = ap (λ (l : List Edge). e ∷ l) (rising es i k p q)

-- the same where the second edge is moved first: to the same position, where it is the same edge
falling : (es : List Edge) (i k : ℕ) (p q : ℤ) → (i ≡ k → p ≡ q)
    → changed_at (fixed q) k (changed_at (fixed p) i es) ≡ changed_at finished k (changed_at finished i (changed_at (moved p) i (changed_at (moved q) k es)))
falling [] i k p q h = refl
falling (e ∷ es) zero zero p q h = ap (λ (z : ℤ). fixed z e ∷ es) (sym (h refl))
falling (e ∷ es) zero (suc k) p q h = ap (λ (l : List Edge). fixed p e ∷ l) (sym (moved-then-done es k q))
falling (e ∷ es) (suc i) zero p q h = ap (λ (l : List Edge). fixed q e ∷ l) (sym (moved-then-done es i p))
falling (e ∷ es) (suc i) (suc k) p q h = ap (λ (l : List Edge). e ∷ l) (falling es i k p q (λ (e : i ≡ k). h (ap suc e)))

abbrev with_edges : Axis → List Edge → Axis
with_edges axis es = record { dim = axis.dim; major_dir = axis.major_dir; edges = es; len = axis.len }

-- the state with another axis, where edge i has become the anchor
abbrev anchor_state : State → ℕ → Trail → Axis → State
anchor_state s i t axis = record { axis = axis; count = s.count; anchor = Some i; trail = t }

by-lower : (s : State) (i k : ℕ) (p w d : ℤ) (lower : Bool) → (i ≡ k → w ≡ pos 0)
    → carried_out s i k (cond lower (fixed_plan p (p +ℤ w) d) (fixed_plan (p +ℤ w) p d))
    ≡ anchor_state s i (record { last = Some (cond lower (p +ℤ w) p); delta = d })
    (both_done i k (cond lower (placed_stem s.axis i k p w) (placed_stem s.axis k i p w)))
unfolding carried_out second_edge held_edge anchor_after placed_stem
by-lower s i k p w d true h = ap (anchor_state s i _) (put_same _ i ∙ ap (with_edges s.axis) (rising s.axis.edges i k p (p +ℤ w)))
by-lower s i k p w d false h =
    ap (anchor_state s i _) (put_same _ i ∙ ap (with_edges s.axis) (falling s.axis.edges i k (p +ℤ w) p (λ (e : i ≡ k). plus_none p w (h e))))
  where
    plus_none : (p w : ℤ) → w ≡ pos 0 → p +ℤ w ≡ p
    plus_none p w e = rw e (same (omega (arith, add-law p (pos 0))))

no-width : (rule : WidthRule) (xs : List ℤ) → fitted_width rule xs (pos 0) ≡ pos 0
unfolding fitted_width lifted snapped settled
no-width Keep xs = refl
no-width Snap [] = refl
no-width Snap (x ∷ xs) = refl

pub own-width : (rule : WidthRule) (xs : List ℤ) (o : ℤ) → fitted_width rule xs (o -ℤ o) ≡ pos 0
own-width rule xs o = let z : o -ℤ o ≡ pos 0 = same (omega (arith, sub-law o o)) in rw z (no-width rule xs)

stem-alone : (m : Mode) (xs : List ℤ) (axis : Axis) (i k : ℕ) (d : ℤ) → i ≡ k
    → (stem_of m.dim m.stem_adjust m.rule xs (edge_at axis i) (edge_at axis k) d).width ≡ pos 0
unfolding stem_of stem_at
stem-alone m xs axis i k d e = rw e (own-width m.rule xs (edge_at axis k).opos)

-- ---- by cases
-- the state with another axis and trail
abbrev axis_state : State → Trail → Axis → State
axis_state s t axis = record { axis = axis; count = s.count; anchor = s.anchor; trail = t }

module _ (m : Mode) (xs : List ℤ) (s : State) (i k : ℕ) where
  abbrev e : Edge
  e = edge_at s.axis i

  abbrev e2 : Edge
  e2 = edge_at s.axis k

  linked-is : (t : Trail) → carried_out s i k (linked_plan m.rule xs e e2 t) ≡ axis_state s t (fix_by_link m.rule xs s.axis i k)
  unfolding carried_out second_edge held_edge anchor_after
  linked-is t = ap (axis_state s t) (put_same _ i ∙ put_same _ k)

  normal-is : carried_out s i k (normal_plan m xs e e2 s.anchor s.trail)
      ≡ normal_stem m s i k (stem_of m.dim m.stem_adjust m.rule xs e e2 s.trail.delta)
  unfolding stem_plan hinted_stem
  normal-is = by-lower s i k _ _ _ (lt_z e.opos e2.opos) (stem-alone m xs s.axis i k s.trail.delta)

  cjk-is : carried_out s i k (cjk_plan m xs e e2 s.anchor (ltb k i) s.trail) ≡ cjk_stem m xs s i k
  unfolding cjk_plan cjk_stem
  cjk-is = by (ltb k i)
    where
      by : (before : Bool)
          → carried_out s i k
          (cond before (linked_plan m.rule xs e e2 (record { last = Some e.pos; delta = s.trail.delta }))
          (normal_plan m xs e e2 s.anchor s.trail))
          ≡ cond before (back_stem m xs s i k) (normal_stem m s i k (stem_of m.dim m.stem_adjust m.rule xs e e2 s.trail.delta))
      by true = linked-is _
      by false = normal-is

  module _ (h : e.link ≡ Some k) where
    behind-is : carried_out s i k (behind_plan e2 (width_of m.rule xs e e2) s.trail)
        ≡ axis_state s s.trail (adjusted (fix_at s.axis i (e2.pos -ℤ width_of m.rule xs e e2) Marks.Adjusted) i Prev)
    unfolding carried_out second_edge anchor_after
    behind-is =
        let p = e2.pos -ℤ width_of m.rule xs e e2 in
        let plan = behind_plan e2 (width_of m.rule xs e e2) s.trail in
        let u = fix_at s.axis i p Marks.Adjusted in
        ap (axis_state s s.trail)
        (ap (held_put plan i k) (put_same u k)
        ∙ bound-is-adjusted u i k plan refl (fix-keeps-link s.axis i i p Marks.Adjusted ∙ h))

    centred-is : (p n w : ℤ) → carried_out s i k (centred_plan p n w s.trail) ≡ axis_state s s.trail (adjusted (centred_stem s.axis i k p n w) i Prev)
    unfolding carried_out second_edge anchor_after
    centred-is p n w =
        ap (axis_state s s.trail)
        (bound-is-adjusted _ i k (centred_plan p n w s.trail) refl
        (fix-keeps-link (fix_at s.axis i (anchored_first p n w) Marks.Stem) k i (anchored_second p n w) Marks.Stem
        ∙ fix-keeps-link s.axis i i (anchored_first p n w) Marks.Stem ∙ h))

    anchored-is : (a : ℕ) → carried_out s i k (anchored_plan m.rule xs e e2 (edge_at s.axis a) s.trail)
        ≡ axis_state s s.trail (adjusted (beside_anchor m.rule xs s.axis i k a) i Prev)
    unfolding anchored_plan beside_anchor
    anchored-is a = by e2.flags.done _ _ _ _ behind-is (centred-is _ _ _)
      where
        by : (t : Bool) (x y : Plan) (u v : Axis)
            → carried_out s i k x ≡ axis_state s s.trail (adjusted u i Prev)
            → carried_out s i k y ≡ axis_state s s.trail (adjusted v i Prev)
            → carried_out s i k (cond t x y) ≡ axis_state s s.trail (adjusted (cond t u v) i Prev)
        by true x y u v p q = p
        by false x y u v p q = q

    free-is : carried_out s i k (free_plan m.rule xs e e2 s.trail)
        ≡ anchor_state s i s.trail (first_stem m.rule xs s.axis i k (free_pos m.rule xs e e2))
    unfolding carried_out free_plan second_edge held_edge anchor_after
    free-is =
        let p = free_pos m.rule xs e e2 in
        let u = fix_at s.axis i p Marks.Anchor in
        ap (anchor_state s i s.trail)
        (put_same _ i ∙ ap (λ (o : ℤ). put_edge u k (placed (edge_at u k) (linked_pos m.rule xs p e.opos o) Marks.Linked))
        (sym (fix-keeps-opos s.axis i k p Marks.Anchor)))

    latin-is : (l : Link) → s.anchor ≡ l → carried_out s i k (latin_plan m.rule xs e e2 (edge_at s.axis (index_or i l)) l s.trail)
        ≡ latin_stem m xs s i k l
    unfolding latin_plan latin_stem
    latin-is None g = free-is
    latin-is (Some a) g = anchored-is a

    group_is : (g : Group) → carried_out s i k (group_plan g m xs e e2 (edge_at s.axis (index_or i s.anchor)) s.anchor (ltb k i) s.trail)
        ≡ group_stem g m xs s i k
    unfolding group_plan group_stem
    group_is Default = latin-is s.anchor refl
    group_is Cjk = cjk-is

    zone-is : (b : Blue) → carried_out s i k (zone_plan b m xs e e2 (edge_at s.axis (index_or i s.anchor)) s.anchor (ltb k i) s.trail)
        ≡ zone_stem b m xs s i k
    unfolding zone_plan zone_stem
    zone-is None = group_is m.group
    zone-is (Some z) = linked-is s.trail

module _ (m : Mode) (xs : List ℤ) (s : State) (i : ℕ) where
  link-is : (l : Link) → (edge_at s.axis i).link ≡ l → step_link m xs s i l ≡ visit_link m xs s i l
  unfolding step_link visit_link
  link-is None h = refl
  link-is (Some k) h =
      ap (cond (too_close m.group s.trail.last (edge_at s.axis i) (edge_at s.axis k)) (counted s)) (zone-is m xs s i k h (edge_at s.axis k).blue)

  step_is : step m xs s i ≡ visit m xs s i
  unfolding step visit
  step_is = ap (cond (edge_at s.axis i).flags.done s) (link-is (edge_at s.axis i).link refl)

-- and so are the passes
pub steps-are : (m : Mode) (xs : List ℤ) (n i : ℕ) (s : State) → visits (step m xs) n i s ≡ visits (visit m xs) n i s
steps-are m xs n i s = visits-same (step m xs) (visit m xs) (λ (s : State) (i : ℕ). step_is m xs s i) n i s
