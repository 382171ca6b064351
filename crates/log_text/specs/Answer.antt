-- What a job of a log is answered by (document 02, #103), as bytes: 81, the count of points and each result in three signed bytes, or 82 and the refusal.
use Rattle.std.specs.Prelude.{◌≡◌, cond, List, [], ◌∷◌, ◌++◌, ℕ, ◌+◌, ◌-◌, ◌*◌, ◌/◌, ◌%◌, ltb, length, ℤ, pos, negsuc}
use Rattle.std.specs.Int.{w32}
use Rattle.std.proofs.Common.{of_z}
use Rattle.refusals.specs.Refusal.{refusal, answered}
use Rattle.weak.specs.Weak.{weak_tests, result}
use Rattle.log_digits.specs.Digits.{written}

-- ---- a refusal
-- the first byte of a refusal, 82
abbrev pub refused_byte : ℕ
refused_byte = 130

abbrev pub refused_bytes : ℕ → List ℕ
refused_bytes number = refused_byte ∷ number ∷ []

-- ---- results
-- the first byte of an answer with results, 81
abbrev pub done_byte : ℕ
done_byte = 129

-- results that one byte counts
abbrev pub most_results : ℕ
most_results = 255

-- bytes of an answer with n results
abbrev pub done_size : ℕ → ℕ
done_size n = 2 + 3 * n

-- a result in three signed bytes: the low three of its two's complement, the high one first
unfoldable pub result_bytes : ℤ → List ℕ
result_bytes z = of_z w32 z / 65536 % 256 ∷ of_z w32 z / 256 % 256 ∷ of_z w32 z % 256 ∷ []

-- results one behind the other
unfoldable pub results_bytes : List ℤ → List ℕ
results_bytes [] = []
results_bytes (z ∷ zs) = result_bytes z ++ results_bytes zs

unfoldable pub done_bytes : List ℤ → List ℕ
done_bytes zs = done_byte ∷ length zs ∷ results_bytes zs

-- the result that three signed bytes hold: below zero they count down from the top
abbrev pub three_bytes : ℕ → ℕ → ℕ → ℕ
three_bytes high middle low = 65536 * high + 256 * middle + low

unfoldable pub result_of : ℕ → ℕ → ℕ → ℤ
result_of high middle low = cond (ltb high 128) (pos (three_bytes high middle low)) (negsuc (16777215 - three_bytes high middle low))

-- the results that bytes hold, three for each
unfoldable pub results_in : List ℕ → List ℤ
results_in [] = []
results_in (a ∷ []) = []
results_in (a ∷ b ∷ []) = []
results_in (a ∷ b ∷ c ∷ bytes) = result_of a b c ∷ results_in bytes

-- ---- a job
-- its answer: the refusal of its outline, or where its points come to
unfoldable pub job_bytes : List ℤ → List ℤ → List ℕ → List ℕ → List ℕ
job_bytes o c t es = answered (refusal (weak_tests o c t es)) refused_bytes (done_bytes (result o c t es))

-- what writing bytes at the beginning of a lent text owes: how many they are, r, and the text that is left
pub record Puts (bytes text : List ℕ) (r : ℕ) (left : List ℕ) : Type 0 where
  pub count : r ≡ length bytes
  pub leaves : left ≡ written text 0 bytes
