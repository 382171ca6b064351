-- What a store of Latin's leaves: no other edge is changed, the edge itself is done, and it stays where it is put if it has passed no neighbour, or has no
-- link.
use Rattle.std.specs.Prelude.{None, Some}
use mathlib.Core.Path.{◌≡◌, refl, sym, ap, ◌∙◌}
use mathlib.Core.Bool.{Bool, true, false, cond, ◌&&◌}
use mathlib.Core.List.{[], ◌∷◌}
use mathlib.Core.Logic.{◌≢◌}
use Prim.Native.Nat.{ℕ, zero, suc, ◌+◌, ◌<◌}
use native.Mathlib.Omega.{arith}
use borrow.Author.Tests.{ltb-true, eqb-true}
use lib.Dec.{ltb, eqb}
use lib.IntN.{ℤ}
use lib.ListN.{length}
use lib.Seq.{get_or-set_same, get_or-set_other}
use lib.Signed.{◌≤ℤ◌}
use Rattle.signed.proofs.Choices.{cond-false, either_way}
use Rattle.signed.proofs.Signed.{signed, to-lt-false}
use Rattle.refusals.proofs.Tests.{and_first, and_second}
use Rattle.axis.specs.Link.{Link}
use Rattle.axis.specs.declared.kinds.Mark.{Mark}
use Rattle.axis.specs.declared.kinds.Mark.TheVariants.{Bound}
use Rattle.axis.specs.declared.edge.Edge.{Edge}
use Rattle.axis.specs.declared.edge.Axis.{Axis}
use Rattle.axis.specs.Changes.{position, nothing, Only}
use Rattle.axis.specs.Edge.{empty_edge, edge_at, fixed_at}
use Rattle.place.specs.declared.adjust.LinkDir.{LinkDir}
use Rattle.place.specs.declared.adjust.LinkDir.TheVariants.{Prev, Next}
use Rattle.place.specs.Placing.{lower_bound, upper_bound, has_passed, neighbour, held_to, bound_by, adjusted}
use Rattle.place.proofs.Changed.{adjusted-only}
use Rattle.gaps.specs.Gaps.{is_done}
use Rattle.remaining.specs.Remaining.{fix_at}
use Rattle.remaining.proofs.Done.{held}

-- ---- an edge that is held to its neighbours
module _ (axis : Axis) (i : ℕ) (dir : LinkDir) (j : ℕ) where
  -- another one is as it was
  adjusted-other : j ≢ i → edge_at (adjusted axis i dir) j ≡ edge_at axis j
  adjusted-other n = by (eqb i j) refl ((adjusted-only axis i dir).edges.edge j)
    where
      by : (t : Bool) → eqb i j ≡ t → Only (cond t (position (Bound ∷ [])) nothing) (edge_at axis j) (edge_at (adjusted axis i dir) j)
          → edge_at (adjusted axis i dir) j ≡ edge_at axis j
      by true q o = absurd (n (sym (eqb-true i j q)))
      by false q o = o.rest

  -- no original position is changed
  adjusted-opos : (edge_at (adjusted axis i dir) j).opos ≡ (edge_at axis j).opos
  adjusted-opos = by (eqb i j) ((adjusted-only axis i dir).edges.edge j)
    where
      by : (t : Bool) → Only (cond t (position (Bound ∷ [])) nothing) (edge_at axis j) (edge_at (adjusted axis i dir) j)
          → (edge_at (adjusted axis i dir) j).opos ≡ (edge_at axis j).opos
      by true o = ap (λ (e : Edge). e.opos) o.rest
      by false o = ap (λ (e : Edge). e.opos) o.rest

-- it has not passed the previous one
prev-stays : (axis : Axis) (i : ℕ) → ((g : ℕ) → i ≡ suc g → (edge_at axis g).pos ≤ℤ (edge_at axis i).pos) → adjusted axis i Prev ≡ axis
unfolding adjusted bound_by neighbour lower_bound has_passed
prev-stays axis zero h = refl
prev-stays axis (suc g) h = let k = h g refl in cond-false _ _ axis (to-lt-false (edge_at axis (suc g)).pos (edge_at axis g).pos (omega (arith, signed)))

-- it has not passed the next one, where that is done
next-stays : (axis : Axis) (i : ℕ) → (i + 1 < axis.len → is_done axis (i + 1) ≡ true → (edge_at axis i).pos ≤ℤ (edge_at axis (i + 1)).pos)
    → adjusted axis i Next ≡ axis
unfolding adjusted bound_by neighbour upper_bound has_passed
next-stays axis zero h = refl
next-stays axis (suc g) h = by (ltb (suc g + 1) axis.len && is_done axis (suc g + 1)) refl
  where
    by : (t : Bool) → (ltb (suc g + 1) axis.len && is_done axis (suc g + 1)) ≡ t
        → bound_by axis g (suc g) Next (cond t (Some (suc g + 1)) None) ≡ axis
    by false q = refl
    by true q =
        let k = h (ltb-true _ _ (and_first (ltb (suc g + 1) axis.len) _ q)) (and_second (ltb (suc g + 1) axis.len) _ q) in
        cond-false _ _ axis (to-lt-false (edge_at axis (suc g + 1)).pos (edge_at axis (suc g)).pos (omega (arith, signed)))

-- it has no link
unlinked-stays : (axis : Axis) (i : ℕ) (dir : LinkDir) → (edge_at axis i).link ≡ None → adjusted axis i dir ≡ axis
unfolding adjusted bound_by held_to
unlinked-stays axis zero dir e = refl
unlinked-stays axis (suc g) dir e = by (neighbour dir axis (suc g))
  where
    by : (l : Link) → bound_by axis g (suc g) dir l ≡ axis
    by None = refl
    by (Some k) =
        either_way (λ (x : Axis). x ≡ axis) (has_passed dir (edge_at axis (suc g)).pos (edge_at axis k).pos)
        (held_to axis g (suc g) k (edge_at axis (suc g)).link) axis
        (ap (held_to axis g (suc g) k) e) refl

-- ---- an edge that is given a position, for good, and then held
module _ (axis : Axis) (i : ℕ) (p : ℤ) (m : Mark) where
  pub fixed-own : i < length axis.edges → (edge_at (fix_at axis i p m) i).pos ≡ p
  fixed-own h = ap (λ (e : Edge). e.pos) (get_or-set_same axis.edges i _ empty_edge h)

  pub fixed-other : (j : ℕ) → j ≢ i → edge_at (fix_at axis i p m) j ≡ edge_at axis j
  fixed-other j n = get_or-set_other axis.edges i j _ empty_edge n

  pub held-len : (held axis i p m).len ≡ axis.len
  held-len = (adjusted-only (adjusted (fix_at axis i p m) i Prev) i Next).len ∙ (adjusted-only (fix_at axis i p m) i Prev).len

  pub held-other : (j : ℕ) → j ≢ i → edge_at (held axis i p m) j ≡ edge_at axis j
  held-other j n = adjusted-other (adjusted (fix_at axis i p m) i Prev) i Next j n ∙ adjusted-other (fix_at axis i p m) i Prev j n ∙ fixed-other j n

  pub held-opos : i < length axis.edges → (edge_at (held axis i p m) i).opos ≡ (edge_at axis i).opos
  held-opos h =
      adjusted-opos (adjusted (fix_at axis i p m) i Prev) i Next i ∙ adjusted-opos (fix_at axis i p m) i Prev i
      ∙ ap (λ (e : Edge). e.opos) (get_or-set_same axis.edges i _ empty_edge h)

  -- it stays there where it has passed neither neighbour
  pub held_stays : i < length axis.edges → ((g : ℕ) → i ≡ suc g → (edge_at axis g).pos ≤ℤ p)
      → (i + 1 < axis.len → is_done axis (i + 1) ≡ true → p ≤ℤ (edge_at axis (i + 1)).pos)
      → held axis i p m ≡ fix_at axis i p m
  held_stays h low high = ap (λ (x : Axis). adjusted x i Next) prev ∙ next
    where
      prev : adjusted (fix_at axis i p m) i Prev ≡ fix_at axis i p m
      prev =
          prev-stays (fix_at axis i p m) i
          (λ g e.
          let a = low g e in
          let other = ap (λ (x : Edge). x.pos) (fixed-other g (λ q. omega (arith, e, q))) in
          let own = fixed-own h in
          omega (arith, signed, a, other, own))

      next : adjusted (fix_at axis i p m) i Next ≡ fix_at axis i p m
      next =
          next-stays (fix_at axis i p m) i
          (λ l d.
          let same = fixed-other (i + 1) (λ q. omega (arith, q)) in
          let a = high l (ap (λ (x : Edge). x.flags.done) (sym same) ∙ d) in
          let other = ap (λ (x : Edge). x.pos) same in
          let own = fixed-own h in
          omega (arith, signed, a, other, own))

  -- and where it has no link
  pub held-unlinked : i < length axis.edges → (edge_at axis i).link ≡ None → held axis i p m ≡ fix_at axis i p m
  held-unlinked h n =
      let e = ap (λ (x : Edge). x.link) (get_or-set_same axis.edges i (fixed_at (edge_at axis i) p m) empty_edge h) ∙ n in
      ap (λ (x : Axis). adjusted x i Next) (unlinked-stays (fix_at axis i p m) i Prev e) ∙ unlinked-stays (fix_at axis i p m) i Next e

-- and edge 0 always
pub held-zero : (axis : Axis) (p : ℤ) (m : Mark) → held axis 0 p m ≡ fix_at axis 0 p m
unfolding adjusted
held-zero axis p m = refl
