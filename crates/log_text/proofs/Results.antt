-- The results of a job, written one behind the other.
use mathlib.Core.Path.{◌≡◌, refl, sym, ap, ◌∙◌}
use mathlib.Core.List.{List, [], ◌∷◌, ◌++◌, append_assoc, append-nil}
use Prim.Native.Nat.{ℕ, ◌+◌, ◌*◌, ◌≤◌, ◌<◌}
use native.Mathlib.Numerals.{add-one}
use native.Mathlib.Omega.{arith}
use lib.ListN.{length, get_or, take, length-take}
use lib.Seq.{take-suc, take_all}
use lib.IntN.{ℤ, pos}
use Rattle.log_digits.specs.Digits.{digits_for, written}
use Rattle.log_digits.proofs.Writing.{written_none, written-length, written-more}
use Rattle.log_text.specs.Answer.{done_byte, done_size, result_bytes, results_bytes, done_bytes, Puts}
use Rattle.log_text.proofs.Putting.{two-written}

-- ---- the bytes of results
result-length : (z : ℤ) → length (result_bytes z) ≡ 3
unfolding result_bytes
result-length z = refl

results-length : (zs : List ℤ) → length (results_bytes zs) ≡ 3 * length zs
unfolding results_bytes result_bytes
results-length [] = refl
results-length (z ∷ zs) = omega (arith, results-length zs)

-- one result more
results-snoc : (zs : List ℤ) (z : ℤ) → results_bytes (zs ++ z ∷ []) ≡ results_bytes zs ++ result_bytes z
unfolding results_bytes
results-snoc [] z = append-nil (result_bytes z)
results-snoc (x ∷ zs) z = ap (λ (l : List ℕ). result_bytes x ++ l) (results-snoc zs z) ∙ sym (append_assoc (result_bytes x) (results_bytes zs) (result_bytes z))

pub done-length : (zs : List ℤ) → length (done_bytes zs) ≡ done_size (length zs)
unfolding done_bytes
done-length zs = omega (arith, results-length zs)

-- ---- a loop that writes them behind the first two bytes
-- what it has written so far: the first i of the results zs
pub record Told (zs : List ℤ) (text₀ text : List ℕ) (i : ℕ) : Type 0 where
  pub within : i ≤ length zs
  pub kept : length text ≡ length text₀
  pub so_far : text ≡ written text₀ 2 (results_bytes (take i zs))

-- nothing yet
pub told_none : (zs : List ℤ) (text : List ℕ) → Told zs text text 0
unfolding results_bytes
told_none zs text = record { within = omega arith; kept = refl; so_far = written_none text 2 }

-- one result more
pub told_more :
    (zs : List ℤ) {text₀ text text' : List ℕ} (i : ℕ) (z : ℤ) → digits_for (done_size (length zs)) ≤ length text₀ → Told zs text₀ text i → i < length zs
    → z ≡ get_or zs i (pos 0)
    → text' ≡ written text (2 + 3 * i) (result_bytes z) → Told zs text₀ text' (i + 1)
told_more zs {text₀} {text} {text'} i z room t h p q = record {
  within = omega arith;
  kept = ap length q ∙ written-length text (result_bytes z) (2 + 3 * i) (omega (arith, result-length z, t.kept)) ∙ t.kept;
  so_far =
      q ∙ (λ j. written (t.so_far j) (place j) (result_bytes z)) ∙ written-more text₀ (results_bytes (take i zs)) (result_bytes z) 2
      (omega (arith, so-long, result-length z))
      ∙ ap (written text₀ 2) more;
}
  where
    so-long : length (results_bytes (take i zs)) ≡ 3 * i
    so-long = results-length (take i zs) ∙ omega (arith, length-take i zs)

    place : 2 + 3 * i ≡ 2 + length (results_bytes (take i zs))
    place = omega (arith, so-long)

    more : results_bytes (take i zs) ++ result_bytes z ≡ results_bytes (take (i + 1) zs)
    more =
        ap (λ (x : ℤ). results_bytes (take i zs) ++ result_bytes x) p ∙ sym (results-snoc (take i zs) (get_or zs i (pos 0)))
        ∙ ap results_bytes (sym (take-suc zs i (pos 0) h)) ∙ ap (λ (n : ℕ). results_bytes (take n zs)) (sym (add-one i))

-- all of them, behind the first two bytes
pub told-all :
    (zs : List ℤ) (text : List ℕ) {first text₀ last : List ℕ} (i : ℕ) → digits_for (done_size (length zs)) ≤ length text → first ≡ written text 0 (done_byte ∷ [])
    → text₀ ≡ written first 1 (length zs ∷ []) → Told zs text₀ last i → length zs ≤ i → Puts (done_bytes zs) text (2 + 3 * i) last
unfolding done_bytes
told-all zs text {first} {text₀} {last} i room p q t h = record {
  count = omega (arith, results-length zs, t.within);
  leaves =
      t.so_far ∙ (λ j. written (two-written text 0 done_byte (length zs) (omega arith) p q j) 2 (results_bytes (take_all i zs h j)))
      ∙ written-more text (done_byte ∷ length zs ∷ []) (results_bytes zs) 0 (omega (arith, results-length zs));
}
