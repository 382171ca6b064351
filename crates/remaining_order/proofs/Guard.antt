-- The guard behind remaining edges of the default group counts every edge, and none is left that is not done; where it finds nothing with least 0, all edges
-- are in order.
use mathlib.Core.Path.{◌≡◌, refl, ap, subst, ◌∙◌}
use mathlib.Core.Bool.{Bool, true, false, not, cond}
use Prim.Native.Nat.{ℕ, zero, suc, ◌+◌, ◌≤◌, ◌<◌}
use native.Mathlib.Omega.{arith}
use lib.IntN.{ℤ, pos}
use lib.ListN.{length}
use Rattle.refusals.specs.Refusal.{refusal, answered}
use Rattle.axis.specs.declared.kinds.Group.TheVariants.{Default}
use Rattle.axis.specs.Link.{Link}
use Rattle.axis.specs.declared.edge.Axis.{Axis}
use Rattle.gaps.specs.Gaps.{is_done, not_done, counts, counted, found_to, found_in, gaps_tests, refused_by, lost_gaps, EdgesRise}
use Rattle.gaps.proofs.Order.{done-rise, rise-kept, pass-keeps, order-kept}
use Rattle.remaining.specs.Remaining.{align_remaining_edges}
use Rattle.remaining.proofs.Changed.{changed}
use Rattle.remaining.proofs.Done.{call-done}
use Rattle.remaining_order.specs.Order.{InOrder}

-- none is counted where each fails
none-counted : (p : ℕ → Bool) (n : ℕ) → ((i : ℕ) → i < n → p i ≡ false) → counted p n ≡ 0
unfolding counted
none-counted p zero h = refl
none-counted p (suc n) h = ap (λ (t : Bool). cond t (counted p n + 1) (counted p n)) (h n (omega arith)) ∙ none-counted p n (λ i l. h i (omega arith))

-- where every edge is done the guard tells of none that is not, refusing or not
all_told : (axis : Axis) (least : ℤ) (linked : Bool) → ((j : ℕ) → j < axis.len → is_done axis j ≡ true) → (lost_gaps axis least linked).not_done ≡ 0
unfolding lost_gaps found_to
all_told axis least linked all = by (refusal (gaps_tests axis least))
  where
    by : (k : ℕ) → (answered k refused_by (found_in least linked axis)).not_done ≡ 0
    by zero = none-counted (not_done axis) axis.len (λ i h. ap not (all i h))
    by (suc k) = refl

module _ (axis : Axis) (count : ℕ) (anchor : Link) (l : axis.len ≤ length axis.edges) (e : (align_remaining_edges axis Default count anchor).answer ≡ 0) where
  all_done : (j : ℕ) → j < (align_remaining_edges axis Default count anchor).axis.len → is_done (align_remaining_edges axis Default count anchor).axis j ≡ true
  all_done j h =
      call-done axis count anchor l e j (subst (λ (n : ℕ). j < n)
      (changed axis Default count anchor {r = align_remaining_edges axis Default count anchor} refl).only.len h)

  -- every edge counts
  pub counts-every : (j : ℕ) → j < (align_remaining_edges axis Default count anchor).axis.len
      → counts false (align_remaining_edges axis Default count anchor).axis j ≡ true
  counts-every = all_done

  -- and none is told of that is not done
  pub none-undone : (least : ℤ) (linked : Bool) → (lost_gaps (align_remaining_edges axis Default count anchor).axis least linked).not_done ≡ 0
  none-undone least linked = all_told (align_remaining_edges axis Default count anchor).axis least linked all_done

  -- where it finds nothing, with least 0 and links not asked for, all are in order: so where they are not, it names some
  pub guarded-order : EdgesRise axis → (lost_gaps (align_remaining_edges axis Default count anchor).axis (pos 0) false).answer ≡ 0
      → (lost_gaps (align_remaining_edges axis Default count anchor).axis (pos 0) false).count ≡ 0
      → (lost_gaps (align_remaining_edges axis Default count anchor).axis (pos 0) false).stems ≡ 0
      → InOrder (align_remaining_edges axis Default count anchor).axis
  guarded-order rise answer gaps stems =
      let new = (align_remaining_edges axis Default count anchor).axis in
      let same = pass-keeps _ axis new (changed axis Default count anchor {r = align_remaining_edges axis Default count anchor} refl).only in
      let kept = order-kept new (done-rise new (rise-kept axis new same rise)) answer gaps stems in
      record { at = λ i j l b. (kept i j l b (all_done i (omega (arith, l, b))) (all_done j b)).not_turned }
