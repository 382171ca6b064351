-- A step of the pass, along one path, is a visit.
use Rattle.std.specs.Prelude.{None, Some}
use mathlib.Core.Path.{◌≡◌, refl, ap, ◌∙◌}
use mathlib.Core.Bool.{Bool, true, false, not, cond, ◌&&◌}
use mathlib.Core.List.{List, [], ◌∷◌}
use Prim.Native.Nat.{ℕ, zero, suc}
use lib.IntN.{ℤ}
use lib.ListN.{get_or, set}
use lib.Seq.{set-get_or}
use Rattle.fixed.specs.declared.width.WidthRule.{WidthRule}
use Rattle.axis.specs.Link.{Link}
use Rattle.axis.specs.Link.{Blue}
use Rattle.axis.specs.declared.edge.Edge.{Edge}
use Rattle.axis.specs.declared.edge.Axis.{Axis}
use Rattle.axis.specs.Link.{is_linked, index_or}
use Rattle.axis.specs.Edge.{empty_edge, edge_at, put_edge, has_blue}
use Rattle.axis.specs.Visits.{visits}
use Rattle.axis.proofs.Visits.{visits-same}
use Rattle.zones.specs.Zones.{unzoned, skipped, zoned_edge, on_zone, link_aligned, State, anchor_first, visit_alone, visit_pair, visit_link, visit}
use Rattle.zones.specs.Steps.{thinned, both_zoned, loses_link, loses_own, zone_of, linked_or_zoned, thin_both, link_at, by_zone, step_by, step}

-- ---- stores that change nothing
pub put_same : (axis : Axis) (i : ℕ) → put_edge axis i (edge_at axis i) ≡ axis
put_same axis i =
    ap (λ (es : List Edge). record { dim = axis.dim; major_dir = axis.major_dir; edges = es; len = axis.len }) (set-get_or axis.edges i empty_edge)

pub keeps : {A B : Type 0} (f : A → B) (l : List A) (i k : ℕ) (e d : A) → f e ≡ f (get_or l i d) → f (get_or (set l i e) k d) ≡ f (get_or l k d)
keeps f [] i k e d h = refl
keeps f (x ∷ l) zero zero e d h = h
keeps f (x ∷ l) zero (suc k) e d h = refl
keeps f (x ∷ l) (suc i) zero e d h = refl
keeps f (x ∷ l) (suc i) (suc k) e d h = keeps f l i k e d h

blue_of : Edge → Blue
blue_of e = e.blue

zone-keeps : (axis : Axis) (a : Link) (i k : ℕ) (z : ℤ) → (edge_at (on_zone axis a i z) k).blue ≡ (edge_at axis k).blue
unfolding blue_of
zone-keeps axis a i k z = keeps blue_of axis.edges i k (zoned_edge a (edge_at axis i) z) empty_edge refl

-- ---- one store of two is made
-- the edge without its zone where that is skipped, as `thinned` has it
abbrev bare : Bool → Edge → Edge
bare skip e = cond skip (unzoned e) e

one_of_two : (axis : Axis) (i k : ℕ) (p q r : Bool) →
    put_edge (put_edge axis i (bare (p && (not q && r)) (edge_at axis i))) k (bare (p && q) (edge_at (put_edge axis i (bare (p && (not q && r)) (edge_at axis i))) k))
    ≡ cond p (cond q (put_edge axis k (unzoned (edge_at axis k))) (cond r (put_edge axis i (unzoned (edge_at axis i))) axis)) axis
one_of_two axis i k false q r = put_same _ k ∙ put_same axis i
one_of_two axis i k true true r = ap (λ (u : Axis). put_edge u k (unzoned (edge_at u k))) (put_same axis i)
one_of_two axis i k true false true = put_same _ k
one_of_two axis i k true false false = put_same _ k ∙ put_same axis i

-- with a link both have a zone where each has one, without it never
zoned-linked : (e f : Edge) → is_linked e.link ≡ true → both_zoned e f ≡ (has_blue e.blue && has_blue f.blue)
unfolding both_zoned
zoned-linked e f h = ap (λ (t : Bool). t && (has_blue e.blue && has_blue f.blue)) h

zoned-alone : (e f : Edge) → is_linked e.link ≡ false → both_zoned e f ≡ false
unfolding both_zoned
zoned-alone e f h = ap (λ (t : Bool). t && (has_blue e.blue && has_blue f.blue)) h

thin-skipped : (axis : Axis) (i k : ℕ) → is_linked (edge_at axis i).link ≡ true → thin_both axis i k ≡ skipped axis i k
unfolding thinned loses_own loses_link skipped
thin-skipped axis i k h =
    rw (zoned-linked (edge_at axis i) (edge_at axis k) h)
    (one_of_two axis i k (has_blue (edge_at axis i).blue && has_blue (edge_at axis k).blue) (edge_at axis k).flags.neutral (edge_at axis i).flags.neutral)

thin-alone : (axis : Axis) (i : ℕ) → is_linked (edge_at axis i).link ≡ false → thin_both axis i i ≡ axis
unfolding thinned loses_own loses_link
thin-alone axis i h = rw (zoned-alone (edge_at axis i) (edge_at axis i) h) (put_same _ i ∙ put_same axis i)

module _ (rule : WidthRule) (xs : List ℤ) where
  link-same : (axis : Axis) (i j : ℕ) → link_at rule xs axis i j ≡ link_aligned rule xs axis i j
  unfolding linked_or_zoned link_aligned
  link-same axis i j = go (has_blue (edge_at axis j).blue) _
    where
      go : (p : Bool) (e : Edge) → put_edge axis j (cond p (edge_at axis j) e) ≡ cond p axis (put_edge axis j e)
      go true e = put_same axis j
      go false e = refl

  -- ---- the zone by its owner
  module _ (axis : Axis) (a : Link) (i : ℕ) where
    abbrev s : State
    s = record { axis = axis; anchor = a }

    zone-pair : (k : ℕ) (x y : Blue) → (edge_at axis i).blue ≡ x → by_zone rule xs axis a i k (zone_of x y) ≡ visit_pair rule xs s i k x y
    unfolding by_zone zone_of visit_pair has_blue
    zone-pair k (Some z) y h =
        ap (λ (p : Bool). record { axis = link_at rule xs (on_zone axis a (cond p i k) z) (cond p i k) (cond p k i); anchor = anchor_first a i }) (ap has_blue h)
        ∙ ap (λ (u : Axis). record { axis = u; anchor = anchor_first a i }) (link-same (on_zone axis a i z) i k)
    zone-pair k None (Some z) h =
        ap (λ (p : Bool). record { axis = link_at rule xs (on_zone axis a (cond p i k) z) (cond p i k) (cond p k i); anchor = anchor_first a i }) (ap has_blue h)
        ∙ ap (λ (u : Axis). record { axis = u; anchor = anchor_first a i }) (link-same (on_zone axis a k z) k i)
    zone-pair k None None h = refl

    aligned-own : (z : ℤ) → (edge_at axis i).blue ≡ Some z → link_aligned rule xs (on_zone axis a i z) i i ≡ on_zone axis a i z
    unfolding link_aligned has_blue
    aligned-own z h = let g : (edge_at (on_zone axis a i z) i).blue ≡ Some z = zone-keeps axis a i i z ∙ h in rw g

    pair-alone : (x : Blue) → (edge_at axis i).blue ≡ x → visit_pair rule xs s i i x x ≡ visit_alone s i x
    unfolding visit_pair visit_alone
    pair-alone None h = refl
    pair-alone (Some z) h = ap (λ (u : Axis). record { axis = u; anchor = anchor_first a i }) (aligned-own z h)

  module _ (axis : Axis) (a : Link) (i : ℕ) where
    by-link : (l : Link) → (edge_at axis i).link ≡ l → step_by rule xs (record { axis = axis; anchor = a }) i (index_or i l)
        ≡ visit_link rule xs (record { axis = axis; anchor = a }) i l
    unfolding visit_link
    by-link None h =
        ap (λ (u : Axis). by_zone rule xs u a i i (zone_of (edge_at u i).blue (edge_at u i).blue)) (thin-alone axis i (ap is_linked h))
        ∙ zone-pair axis a i i (edge_at axis i).blue (edge_at axis i).blue refl
        ∙ pair-alone axis a i (edge_at axis i).blue refl
    by-link (Some k) h =
        ap (λ (u : Axis). by_zone rule xs u a i k (zone_of (edge_at u i).blue (edge_at u k).blue)) (thin-skipped axis i k (ap is_linked h))
        ∙ zone-pair (skipped axis i k) a i k _ _ refl

    step_is : step rule xs (record { axis = axis; anchor = a }) i ≡ visit rule xs (record { axis = axis; anchor = a }) i
    unfolding step visit
    step_is = ap (cond (edge_at axis i).flags.done (record { axis = axis; anchor = a })) (by-link (edge_at axis i).link refl)

-- ---- and so are the passes
pub steps-are : (rule : WidthRule) (xs : List ℤ) (n i : ℕ) (s : State) → visits (step rule xs) n i s ≡ visits (visit rule xs) n i s
steps-are rule xs n i s = visits-same (step rule xs) (visit rule xs) (λ (s : State) (i : ℕ). step_is rule xs s.axis s.anchor i) n i s
