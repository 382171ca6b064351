-- What one scale says: originals in order are of font positions in order, and edges in order by original positions do not fall in the table.
use mathlib.Core.List.{List}
use mathlib.Core.Logic.{⊎_elim}
use Prim.Native.Nat.{ℕ, ◌+◌, ◌≤◌, ◌<◌}
use native.Mathlib.Omega.{arith}
use lib.IntN.{ℤ, pos}
use lib.Signed.{◌≤ℤ◌, ◌<ℤ◌}
use Rattle.signed.specs.Parts.{up, dn}
use Rattle.signed.proofs.Signed.{to-≤ℤ, to-≡, lt-or-le}
use Rattle.signed.proofs.Order.{of-≤ℤ, of-<ℤ, to-<ℤ, of-≡}
use Rattle.axis.specs.declared.edge.Axis.{Axis}
use Rattle.axis.specs.Edge.{edge_at}
use Rattle.fixed.specs.Point.{mul_fix}
use Rattle.fixed.proofs.Rounding.{mul-grows}
use Rattle.strong.specs.Steps.{Rising}
use Rattle.fit_order.specs.Order.{AllInOrder, Scaled}

-- a scale that is not negative, by its parts
pub not_negative : (s : ℤ) → pos 0 ≤ℤ s → dn s ≤ up s
not_negative s h = omega (arith, of-≤ℤ (pos 0) s h)

-- of two numbers the one of lower product is the lower
pub lower : (a b s : ℤ) → dn s ≤ up s → mul_fix a s <ℤ mul_fix b s → a <ℤ b
lower a b s h l =
    ⊎_elim (λ (k : up a + dn b < up b + dn a). to-<ℤ a b k)
    (λ (k : up b + dn a ≤ up a + dn b). absurd (omega (arith, of-<ℤ _ _ l, of-≤ℤ _ _ (mul-grows b a s h (to-≤ℤ b a k)))))
    (lt-or-le (up a + dn b) (up b + dn a))

-- edges in order, by one scale, do not fall in the table
pub all-rise : (scale : ℤ) (axis : Axis) (f o : List ℤ) → Scaled scale axis f o → AllInOrder axis → Rising axis
all-rise scale axis f o scaled order = record { fpos = order.fonts; pos = positions }
  where
    positions : (i j : ℕ) → i ≤ j → j < axis.len → (edge_at axis i).pos ≤ℤ (edge_at axis j).pos
    positions i j h l =
        let m : i < axis.len = omega arith in
        let v = (edge_at axis i).opos in
        let v' = (edge_at axis j).opos in
        let g = of-≤ℤ _ _ (mul-grows _ _ scale (not_negative scale scaled.positive) (order.fonts i j h l)) in
        let a = of-≡ v _ (scaled.edges i m) in
        let b = of-≡ v' _ (scaled.edges j l) in
        ⊎_elim (λ (k : up v + dn v' < up v' + dn v). order.apart i j m l (to-<ℤ v v' k))
        (λ (k : up v' + dn v ≤ up v + dn v').
        let e = order.level i j m l (to-≡ v v' (omega arith)) in
        to-≤ℤ _ _ (omega (arith, of-≡ _ _ e)))
        (lt-or-le (up v + dn v') (up v' + dn v))
