-- The outcome of the call: what it is for a refused outline and for an accepted one, and that it is determined.
use Rattle.std.specs.Prelude.{Result}
use mathlib.Core.Path.{◌≡◌, refl, sym, ◌∙◌, ap}
use mathlib.Core.List.{List}
use Prim.Native.Nat.{ℕ, zero, suc, ◌+◌, ◌<◌}
use native.Mathlib.Nat.{add-zero, lt_irrefl}
use native.Mathlib.Omega.{arith}
use lib.ListN.{length}
use lib.Seq.{ext_get_or}
use lib.IntN.{ℤ, pos}
use Rattle.weak_contour.specs.Contour.{at}
use Rattle.refusals.specs.declared.order.Refusal.{Refusal}
use Rattle.refusals.specs.Refusal.{refusal, answered}
use Rattle.refusals.specs.Outcome.{answer_of}
use Rattle.refusals.proofs.Tests.{answered-no}
use Rattle.refusals.proofs.Outcomes.{answer-one}
use Rattle.weak.specs.Weak.{weak_tests, aligned_at, list_of, result, Outcome}
use Rattle.weak.specs.Steps.{AllDone}

-- ---- `list_of`
-- its length
pub length-list_of : (f : ℕ → ℤ) (i n : ℕ) → length (list_of f i n) ≡ n
unfolding list_of
length-list_of f i zero = refl
length-list_of f i (suc n) = ap suc (length-list_of f (suc i) n)

-- its places
pub at-list_of : (f : ℕ → ℤ) (i n k : ℕ) → k < n → at (list_of f i n) k ≡ f (i + k)
unfolding list_of
at-list_of f i zero k h = absurd (lt_irrefl k (omega arith))
at-list_of f i (suc n) zero h = ap f (sym (add-zero i))
at-list_of f i (suc n) (suc k) h = at-list_of f (suc i) n k (omega arith) ∙ ap f (omega arith)

-- ---- the result
module _ (o c : List ℤ) (t es : List ℕ) where
  -- a refusal k writes nothing
  pub result-refused : (k : ℕ) → k ≡ refusal (weak_tests o c t es) → 0 < k → c ≡ result o c t es
  unfolding result
  result-refused k e h = answered-no k (refusal (weak_tests o c t es)) (λ _. c) (list_of (aligned_at o c t es) 0 (length c)) e h

  -- the places of an accepted outline
  result-is : refusal (weak_tests o c t es) ≡ 0 → result o c t es ≡ list_of (aligned_at o c t es) 0 (length c)
  unfolding result
  result-is e = ap (λ (k : ℕ). answered k (λ _. c) (list_of (aligned_at o c t es) 0 (length c))) e

  -- the currents keep their length, of a refused outline too
  pub result-length : length (result o c t es) ≡ length c
  unfolding result
  result-length = by (refusal (weak_tests o c t es))
    where
      by : (k : ℕ) → length (answered k (λ _. c) (list_of (aligned_at o c t es) 0 (length c))) ≡ length c
      by zero = length-list_of (aligned_at o c t es) 0 (length c)
      by (suc k) = refl

  -- each of its points comes to its place
  pub result-at : refusal (weak_tests o c t es) ≡ 0 → (i : ℕ) → i < length c → at (result o c t es) i ≡ aligned_at o c t es i
  result-at e i h = ap (λ (l : List ℤ). at l i) (result-is e) ∙ at-list_of (aligned_at o c t es) 0 (length c) i h ∙ ap (aligned_at o c t es) (omega arith)

  -- and lists with these places are the result
  pub result-done : (d : List ℤ) → refusal (weak_tests o c t es) ≡ 0 → AllDone o c t es d → d ≡ result o c t es
  result-done d e a =
      ext_get_or (pos 0) d (result o c t es) (a.len ∙ sym result-length) (λ i h. a.each i (omega (arith, a.len)) ∙ sym (result-at e i (omega (arith, a.len))))

-- ---- two outcomes that the promise of `align_weak_points` allows coincide
pub determined : (o c : List ℤ) (t es : List ℕ) (a b : ℕ) (d e : List ℤ) → Outcome o c t es a d → Outcome o c t es b e → (a ≡ b) × (d ≡ e)
determined o c t es a b d e x y = (x.answer ∙ sym y.answer, x.currents ∙ sym y.currents)

-- and so do two results, with the currents left
pub determined-result : (o c : List ℤ) (t es : List ℕ) {r s : Result (Unit {0}) Refusal} {d e : List ℤ}
    → Outcome o c t es (answer_of r) d → Outcome o c t es (answer_of s) e → (r ≡ s) × (d ≡ e)
determined-result o c t es {r} {s} {d} {e} x y = let w = determined o c t es (answer_of r) (answer_of s) d e x y in (answer-one r s w.0, w.1)
