-- Edges in order: by their neighbours, and by what the guard answers.
use Rattle.std.specs.Prelude.{None, Some}
use mathlib.Core.Path.{◌≡◌, refl, sym, subst}
use mathlib.Core.Bool.{true, false}
use mathlib.Core.Logic.{⊎_elim}
use Prim.Native.Nat.{ℕ, zero, suc, ◌≤◌, ◌<◌}
use native.Mathlib.Nat.{eq-or-lt_of_le}
use native.Mathlib.Omega.{arith}
use lib.IntN.{pos}
use lib.Signed.{◌≤ℤ◌, ◌<ℤ◌}
use Rattle.signed.proofs.Choices.{clash}
use Rattle.signed.proofs.Signed.{signed, lt-or-le}
use Rattle.axis.specs.declared.edge.Axis.{Axis}
use Rattle.axis.specs.Link.{Link}
use Rattle.axis.specs.Edge.{edge_at}
use Rattle.gaps.specs.Gaps.{is_done, counts, before, lost_gaps, DoneRise}
use Rattle.gaps.proofs.Ends.{starts-pair}
use Rattle.gaps.proofs.Lasts.{Last, last_is}
use Rattle.gaps.proofs.Order.{order-kept}
use Rattle.edge_points_order.specs.Order.{EdgesInOrder, EdgesApart, NoneTurned}

-- ---- any two done edges, by those between them
module _ (axis : Axis) (n : NoneTurned axis) where
  -- the last pair on the way starts at the last done edge in front of the second
  rise-to : (m i j : ℕ) → j ≤ m → i < j → j < axis.len → is_done axis i ≡ true → is_done axis j ≡ true → (edge_at axis i).pos ≤ℤ (edge_at axis j).pos
  rise-to zero i j l o b d f = absurd (omega arith)
  rise-to (suc m) i j l o b d f = by (rise-to m i) (before false axis j) refl (last_is (counts false axis) j)
    where
      by : ((k : ℕ) → k ≤ m → i < k → k < axis.len → is_done axis i ≡ true → is_done axis k ≡ true → (edge_at axis i).pos ≤ℤ (edge_at axis k).pos)
          → (x : Link) → before false axis j ≡ x → Last (counts false axis) j x → (edge_at axis i).pos ≤ℤ (edge_at axis j).pos
      by rest None q x = absurd (clash _ (x.none refl i o) d)
      by rest (Some k) q x =
          let last = x.some k refl in
          let step = n.at k j (starts-pair false axis k j b f q) in
          let under = last.order in
          ⊎_elim
          (λ (h : k < i). absurd (clash _ (last.between i h o) d))
          (λ (h : i ≤ k).
          ⊎_elim
          (λ (w : i ≡ k). subst (λ (y : ℕ). (edge_at axis y).pos ≤ℤ (edge_at axis j).pos) (sym w) step)
          (λ (w : i < k). let a = rest k (omega arith) w (omega arith) d last.passes in omega (arith, signed))
          (eq-or-lt_of_le h))
          (lt-or-le k i)

-- ---- by their order in the table, in which original positions do not fall
-- of two done edges the one that was lower stands first
stands-first : (axis : Axis) → DoneRise axis → (i j : ℕ) → i < axis.len → is_done axis i ≡ true → is_done axis j ≡ true
    → (edge_at axis i).opos <ℤ (edge_at axis j).opos → i < j
stands-first axis r i j x d f l =
    ⊎_elim (λ (o : i < j). o)
    (λ (o : j ≤ i).
    ⊎_elim
    (λ (e : j ≡ i). let k = subst (λ (y : ℕ). (edge_at axis i).opos <ℤ (edge_at axis y).opos) e l in absurd (omega (arith, signed)))
    (λ (g : j < i). let a = r.at j i g x f d in absurd (omega (arith, signed)))
    (eq-or-lt_of_le o))
    (lt-or-le i j)

-- no neighbours are turned
pub neighbours-in-order : (axis : Axis) → DoneRise axis → NoneTurned axis → EdgesInOrder axis
neighbours-in-order axis r n = record { at = λ i j x y d f l. rise-to axis n j i j (omega arith) (stands-first axis r i j x d f l) y d f }

-- the guard finds no gap and no stem lost, at width 0, with or without links
pub guarded-apart : (axis : Axis) → DoneRise axis → (lost_gaps axis (pos 0) false).answer ≡ 0 → (lost_gaps axis (pos 0) false).count ≡ 0
    → (lost_gaps axis (pos 0) false).stems ≡ 0 → EdgesApart axis
guarded-apart axis r e z s = record { at = λ i j x y d f l. (order-kept axis r e z s i j (stands-first axis r i j x d f l) y d f).not_closed l }

-- edges that are apart are in order
pub apart_in_order : (axis : Axis) → EdgesApart axis → EdgesInOrder axis
apart_in_order axis a = record { at = λ i j x y d f l. let k = a.at i j x y d f l in omega (arith, signed) }
