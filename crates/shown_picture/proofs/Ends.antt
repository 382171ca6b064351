-- The points of the contours: those up to the last contour end. Assumes nothing.
use mathlib.Core.Path.{◌≡◌, sym, ap, subst, ◌∙◌}
use mathlib.Core.Bool.{true, ◌&&◌}
use mathlib.Core.List.{List, [], ◌∷◌}
use Prim.Native.Nat.{ℕ, suc, ◌+◌, ◌-◌, ◌≤◌, ◌<◌}
use native.Mathlib.Numerals.{add-one}
use native.Mathlib.Omega.{arith}
use borrow.Author.Tests.{ltb-true, leb-true, lt-ltb}
use lib.Dec.{leb, ltb}
use lib.ListN.{length, get_or}
use Rattle.refusals.proofs.Tests.{and_first, and_second}
use Rattle.weak.specs.Weak.{ends_hold}

-- the ends hold of as many points as go up to it, and it is one of the points
pub record Last (s n e : ℕ) (es : List ℕ) : Type 0 where
  pub holds : ends_hold s (suc (get_or (e ∷ es) (length es) 0)) (e ∷ es) ≡ true
  pub first : e ≤ get_or (e ∷ es) (length es) 0
  pub inside : get_or (e ∷ es) (length es) 0 < n

last_is : (s n e : ℕ) (es : List ℕ) → ends_hold s n (e ∷ es) ≡ true → Last s n e es
unfolding ends_hold
last_is s n e [] h =
    let a = and_first (leb s e) (ltb e n && true) h in
    let b = and_first (ltb e n) true (and_second (leb s e) (ltb e n && true) h) in
    record { holds = rw (a, lt-ltb e (suc e) (omega arith)); first = omega arith; inside = ltb-true e n b }
last_is s n e (x ∷ es) h =
    let rest = ends_hold (suc e) n (x ∷ es) in
    let a = and_first (leb s e) (ltb e n && rest) h in
    let c = and_second (ltb e n) rest (and_second (leb s e) (ltb e n && rest) h) in
    let r = last_is (suc e) n x es c in
    let d = leb-true (suc e) x (and_first (leb (suc e) x) (ltb x n && ends_hold (suc x) n es) c) in
    let m : e < suc (get_or (x ∷ es) (length es) 0) = omega (arith, d, r.first) in
    record { holds = rw (a, lt-ltb e (suc (get_or (x ∷ es) (length es) 0)) m, r.holds); first = omega (arith, m); inside = r.inside }

module _ (n : ℕ) where
  pub last-inside : (es : List ℕ) → ends_hold 0 n es ≡ true → 0 < length es → get_or es (length es - 1) 0 < n
  last-inside [] h k = absurd (omega arith)
  last-inside (e ∷ es) h k = let z : length es ≡ suc (length es) - 1 = omega arith in rw (← z) (last_is 0 n e es h).inside

  pub last-holds : (es : List ℕ) → ends_hold 0 n es ≡ true → 0 < length es → (m : ℕ) → m ≡ get_or es (length es - 1) 0 + 1 → ends_hold 0 m es ≡ true
  last-holds [] h k m q = absurd (omega arith)
  last-holds (e ∷ es) h k m q =
      let z : suc (length es) - 1 ≡ length es = omega arith in
      let y : m ≡ suc (get_or (e ∷ es) (length es) 0) = q ∙ ap (λ (i : ℕ). get_or (e ∷ es) i 0 + 1) z ∙ add-one (get_or (e ∷ es) (length es) 0) in
      subst (λ (i : ℕ). ends_hold 0 i (e ∷ es) ≡ true) (sym y) (last_is 0 n e es h).holds
