-- Three signed bytes hold every result: what an answer has for a result is read back as it.
use mathlib.Core.Path.{◌≡◌, refl, sym, ap, ◌∙◌}
use mathlib.Core.Bool.{true, false}
use mathlib.Core.List.{List, [], ◌∷◌}
use Prim.Native.Nat.{ℕ, suc, ◌+◌, ◌-◌, ◌/◌, ◌%◌, ◌<◌}
use native.Mathlib.Omega.{arith}
use borrow.Author.Tests.{lt-ltb, le-ltb}
use lib.Dec.{ltb}
use lib.ListN.{length, drop}
use lib.IntN.{ℤ, pos, negsuc}
use mir.Syntax.{w32}
use mir.Val.{of_z}
use Rattle.signed.specs.Range.{Between}
use Rattle.signed.proofs.Signed.{between-plain}
use Rattle.refusals.specs.Refusal.{refusal}
use Rattle.refusals.proofs.Answers.{worked}
use Rattle.weak_contour.specs.Contour.{at}
use Rattle.weak_contour.specs.Limits.{most_result}
use Rattle.weak.specs.Weak.{weak_tests, result}
use Rattle.weak.proofs.Bounds.{within}
use Rattle.weak.proofs.Determined.{result-length}
use Rattle.log_text.specs.Answer.{refused_bytes, three_bytes, result_of, results_in, results_bytes, result_bytes, done_bytes, job_bytes}

-- ---- one number
-- what three signed bytes hold
abbrev ThreeBytes : ℤ → Type 0
ThreeBytes = Between 8388608 8388607

-- the high one of the three low bytes of a number below zero
top : (m : ℕ) → m < 16777216 → (4278190080 + m) / 65536 % 256 ≡ m / 65536
top m h = let q : (4278190080 + m) / 65536 ≡ 65280 + m / 65536 = omega arith in rw q (omega arith)

-- the three low bytes of its two's complement are read back as it
three_back : (z : ℤ) → ThreeBytes z → result_of (of_z w32 z / 65536 % 256) (of_z w32 z / 256 % 256) (of_z w32 z % 256) ≡ z
unfolding result_of
three_back (pos n) h =
    let e : three_bytes (n / 65536 % 256) (n / 256 % 256) (n % 256) ≡ n = omega arith in
    let t : ltb (n / 65536 % 256) 128 ≡ true = lt-ltb (n / 65536 % 256) 128 (omega arith) in
    rw (t, e)
three_back (negsuc n) h =
    let m = 16777216 - suc n in
    let bits : 4294967296 - suc n ≡ 4278190080 + m = omega arith in
    let high : (4278190080 + m) / 65536 % 256 ≡ m / 65536 = top m (omega arith) in
    let middle : (4278190080 + m) / 256 % 256 ≡ m / 256 % 256 = omega arith in
    let low : (4278190080 + m) % 256 ≡ m % 256 = omega arith in
    let e : 16777215 - three_bytes (m / 65536) (m / 256 % 256) (m % 256) ≡ n = omega arith in
    let t : ltb (m / 65536) 128 ≡ false = le-ltb (m / 65536) 128 (omega arith) in
    rw (bits, high, middle, low, t, e)

-- ---- the results of a job
-- each of a list of such numbers
results-back : (zs : List ℤ) → ((i : ℕ) → i < length zs → ThreeBytes (at zs i)) → results_in (results_bytes zs) ≡ zs
unfolding results_in results_bytes result_bytes
results-back [] h = refl
results-back (z ∷ zs) h = λ k. three_back z (h 0 (omega arith)) k ∷ results-back zs (λ i l. h (suc i) (omega arith)) k

-- every result lies within 196,605 either way
result-small : (o c : List ℤ) (t es : List ℕ) → refusal (weak_tests o c t es) ≡ 0 → (i : ℕ) → i < length (result o c t es) → ThreeBytes (at (result o c t es) i)
result-small o c t es e i h =
    let b : Between most_result most_result (at (result o c t es) i) =
    (between-plain most_result most_result (at (result o c t es) i)).1
    (within o c (result o c t es) t es (record { answer = sym e; currents = refl }) i (omega (arith, result-length o c t es))) in
    omega (arith, b)

-- so the answer to a job that is not refused holds its results: behind its first two bytes they are read back
pub results-held : (o c : List ℤ) (t es : List ℕ) → refusal (weak_tests o c t es) ≡ 0 → results_in (drop 2 (job_bytes o c t es)) ≡ result o c t es
unfolding job_bytes done_bytes
results-held o c t es e =
    ap (λ (bytes : List ℕ). results_in (drop 2 bytes)) (worked refused_bytes (done_bytes (result o c t es)) (refusal (weak_tests o c t es)) e)
    ∙ results-back (result o c t es) (result-small o c t es e)
