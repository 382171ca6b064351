-- Both numbers that a call hands back fit 32 bits: at most 4,194,304 pixels are black, and the Euler number is from -4,198,401 to 4,198,401. Assumes nothing.
use mathlib.Core.Path.{◌≡◌, refl, ap}
use mathlib.Core.List.{List}
use Prim.Native.Nat.{ℕ, zero, suc, ◌≤◌}
use native.Mathlib.Omega.{arith}
use lib.ListN.{length}
use lib.IntN.{ℤ, nat_abs}
use Rattle.refusals.specs.Refusal.{refusal, answered}
use Rattle.path_trip.specs.Path.{points}
use Rattle.shown_rows.specs.Turns.{most_columns}
use Rattle.shown.proofs.Limits.{blacks-most, euler-most}
use Rattle.shown_count.specs.Answer.{Shown}
use Rattle.shown_count.specs.Count.{shown_tests, picture, refused_by, counted_of, shown, CountsShown}
use Rattle.shown_count.proofs.Accepting.{passed}

module _ (xs ys : List ℤ) (marks es : List ℕ) (m : ℤ) where
  black-by : (k : ℕ) → refusal (shown_tests xs ys marks es m) ≡ k → (answered k refused_by (counted_of (picture xs ys marks es m))).black ≤ 4194304
  black-by zero e = let p = passed xs ys marks es m e in blacks-most (nat_abs m) (points xs ys marks) (length xs) es p.ends p.field
  black-by (suc k) e = omega arith

  euler-by : (k : ℕ) → nat_abs (answered k refused_by (counted_of (picture xs ys marks es m))).euler ≤ 4198401
  euler-by zero = euler-most (picture xs ys marks es m) most_columns
  euler-by (suc k) = omega arith

  pub few-black : (r : Shown) → CountsShown xs ys marks es m r → r.black ≤ 4194304
  unfolding shown
  few-black r e = omega (arith, ap (λ (x : Shown). x.black) e, black-by (refusal (shown_tests xs ys marks es m)) refl)

  pub few-euler : (r : Shown) → CountsShown xs ys marks es m r → nat_abs r.euler ≤ 4198401
  unfolding shown
  few-euler r e = omega (arith, ap (λ (x : Shown). nat_abs x.euler) e, euler-by (refusal (shown_tests xs ys marks es m)))
