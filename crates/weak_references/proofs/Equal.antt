-- What both calls come to: a refusal, or the work; that their promises determine their outcomes; and that a list that was remembered is never refused by 9, at
-- no
-- size: alignment with it is alignment without.
use Rattle.std.specs.Prelude.{Result}
use mathlib.Core.Path.{◌≡◌, refl, sym, ap, ◌∙◌}
use mathlib.Core.List.{List}
use mathlib.Core.Bool.{true}
use Prim.Native.Nat.{ℕ, zero, suc, ◌<◌}
use native.Mathlib.Decide.{dec_lt, ℕ_discrete}
use native.Mathlib.Omega.{arith}
use lib.ListN.{length}
use lib.IntN.{ℤ}
use Rattle.refusals.specs.declared.order.Refusal.{Refusal}
use Rattle.refusals.specs.Refusal.{refusal, answered}
use Rattle.refusals.specs.Outcome.{answer_of}
use Rattle.refusals.proofs.Tests.{own_first, answered-no, answered-yes}
use Rattle.refusals.proofs.Outcomes.{answer-one}
use Rattle.weak_contour.specs.Limits.{most_points}
use Rattle.weak.specs.Weak.{list_tests, number_tests, weak_tests, result, Outcome}
use Rattle.weak.specs.Steps.{AllDone}
use Rattle.weak.proofs.Refusals.{refused-marks, refused-long, refused-currents}
use Rattle.weak.proofs.Determined.{result-refused, result-done}
use Rattle.weak_known.specs.Known.{before_at, behind_at, befores, behinds, matches}
use Rattle.weak_known.specs.Walks.{Put}
use Rattle.weak_known.proofs.Remembering.{entries-length, entries-put, TouchAlike, remembered}
use Rattle.weak_references.specs.References.{remember_tests, with_tests, Remembered, AlignedWith}
use Rattle.weak_references.proofs.Refusals.{ready, refused-alike, with-before, with-accepted}

-- ---- remembering
module _ (t es b h : List ℕ) where
  pub remember-refused : (a : ℕ) → a ≡ refusal (remember_tests t es b h) → 0 < a → Remembered t es b h a b h
  remember-refused a e n = record {
    answer = e;
    before = answered-no a _ (λ _. b) (befores t es) e n;
    behind = answered-no a _ (λ _. h) (behinds t es) e n;
  }

  pub remember-done : (b' h' : List ℕ) → refusal (remember_tests t es b h) ≡ 0 → Put (before_at t es) 0 (length t) b b' → Put (behind_at t es) 0 (length t) h h'
      → Remembered t es b h 0 b' h'
  remember-done b' h' e v w =
      let r = ready t es b h e in
      record {
        answer = sym e;
        before = answered-yes 0 _ (λ _. b) (befores t es) b' (sym e) (omega arith) (entries-put (before_at t es) (length t) b b' r.before v);
        behind = answered-yes 0 _ (λ _. h) (behinds t es) h' (sym e) (omega arith) (entries-put (behind_at t es) (length t) h h' r.behind w);
      }

-- two outcomes that the promise of `remember_references` allows coincide
pub remembered-determined :
    (t es b h : List ℕ) {a a' : ℕ} {x x' y y' : List ℕ} → Remembered t es b h a x y → Remembered t es b h a' x' y' → (a ≡ a') × ((x ≡ x') × (y ≡ y'))
remembered-determined t es b h p q = (p.answer ∙ sym q.answer, (p.before ∙ sym q.before, p.behind ∙ sym q.behind))

-- and so do two results, with the lists left
pub remembered-determined-result :
    (t es b h : List ℕ) {r s : Result (Unit {0}) Refusal} {x x' y y' : List ℕ} → Remembered t es b h (answer_of r) x y → Remembered t es b h (answer_of s) x' y'
    → (r ≡ s) × ((x ≡ x') × (y ≡ y'))
remembered-determined-result t es b h {r} {s} p q = let w = remembered-determined t es b h p q in (answer-one r s w.0, w.1)

-- ---- aligning
module _ (o c : List ℤ) (t es b h : List ℕ) where
  pub with-refused : (a : ℕ) → a ≡ refusal (with_tests o c t es b h) → 0 < a → AlignedWith o c t es b h a c
  with-refused a e n = record { answer = e; currents = answered-no a _ (λ _. c) (result o c t es) e n }

  pub with-done : (d : List ℤ) → refusal (with_tests o c t es b h) ≡ 0 → AllDone o c t es d → AlignedWith o c t es b h 0 d
  with-done d e w = record {
    answer = sym e;
    currents = answered-yes 0 _ (λ _. c) (result o c t es) d (sym e) (omega arith) (result-done o c t es d (with-accepted o c t es b h e) w);
  }

-- two outcomes that the promise of `align_with_references` allows coincide
pub aligned-determined : (o c : List ℤ) (t es b h : List ℕ) {a a' : ℕ} {d d' : List ℤ} → AlignedWith o c t es b h a d → AlignedWith o c t es b h a' d'
    → (a ≡ a') × (d ≡ d')
aligned-determined o c t es b h p q = (p.answer ∙ sym q.answer, p.currents ∙ sym q.currents)

-- and so do two results, with the currents left
pub aligned-determined-result : (o c : List ℤ) (t es b h : List ℕ) {r s : Result (Unit {0}) Refusal} {d d' : List ℤ}
    → AlignedWith o c t es b h (answer_of r) d → AlignedWith o c t es b h (answer_of s) d' → (r ≡ s) × (d ≡ d')
aligned-determined-result o c t es b h {r} {s} p q = let w = aligned-determined o c t es b h p q in (answer-one r s w.0, w.1)

-- ---- a list that matches: what is answered and left is what `align_weak_points` owes, refusals too
refused-same : (o c : List ℤ) (t es : List ℕ) (k : ℕ) → k ≡ refusal (weak_tests o c t es) → answered k (λ _. c) (result o c t es) ≡ result o c t es
refused-same o c t es zero e = refl
refused-same o c t es (suc k) e = result-refused o c t es (suc k) e (omega arith)

pub matching-equal : (o c : List ℤ) (t es b h : List ℕ) (a : ℕ) (d : List ℤ) → refusal (with_tests o c t es b h) ≡ refusal (weak_tests o c t es)
    → AlignedWith o c t es b h a d → Outcome o c t es a d
matching-equal o c t es b h a d e w =
    record { answer = w.answer ∙ e; currents = w.currents ∙ refused-same o c t es (refusal (with_tests o c t es b h)) e }

-- ---- a remembered list: whatever the originals and currents, and whatever marks touch the same points, the answer and the currents are those of
-- `align_weak_points`
module _ (t es b h b' h' : List ℕ) (r : Remembered t es b h 0 b' h') (u : List ℕ) (alike : TouchAlike t u) (lu : length u ≡ length t) where
  wrote-before : b' ≡ befores t es
  wrote-before = r.before ∙ ap (λ (k : ℕ). answered k (λ _. b) (befores t es)) (sym r.answer)

  wrote-behind : h' ≡ behinds t es
  wrote-behind = r.behind ∙ ap (λ (k : ℕ). answered k (λ _. h) (behinds t es)) (sym r.answer)

  before-length : length b' ≡ length u
  before-length = ap length wrote-before ∙ entries-length (before_at t es) 0 (length t) ∙ sym lu

  behind-length : length h' ≡ length u
  behind-length = ap length wrote-behind ∙ entries-length (behind_at t es) 0 (length t) ∙ sym lu

  -- never 9
  pub remembered-matches : matches u es b' h' ≡ true
  remembered-matches = rw (wrote-before, wrote-behind) (remembered t u alike es lu)

  module _ (o c : List ℤ) where
    -- an outline of another length is refused by 1 either way
    other_length : (length u ≡ length o → ⊥) → refusal (weak_tests o c u es) ≡ 1
    other_length n =
        sym (answered-no 1 _ (λ (k : ℕ). k) (refusal (number_tests o c u es)) (sym (by (dec_lt most_points (length o)) (ℕ_discrete (length c) (length o))))
        (omega arith) ∙ sym (own_first (list_tests o c u es) (number_tests o c u es) refl))
      where
        by : Dec (most_points < length o) → Dec (length c ≡ length o) → refusal (list_tests o c u es) ≡ 1
        by (yes h) e = refused-long o c u es h
        by (no h) (no e) = refused-currents o c u es (omega arith) e
        by (no h) (yes e) = refused-marks o c u es (omega arith) e n

    remembered-alike : refusal (with_tests o c u es b' h') ≡ refusal (weak_tests o c u es)
    remembered-alike = by (ℕ_discrete (length u) (length o))
      where
        by : Dec (length u ≡ length o) → refusal (with_tests o c u es b' h') ≡ refusal (weak_tests o c u es)
        by (yes e) = refused-alike o c u es b' h' (before-length ∙ e) (behind-length ∙ e) remembered-matches
        by (no n) = with-before o c u es b' h' (λ q. n (sym before-length ∙ q)) ∙ sym (other_length n)

    pub remembered-equal : (a : ℕ) (d : List ℤ) → AlignedWith o c u es b' h' a d → Outcome o c u es a d
    remembered-equal a d w = matching-equal o c u es b' h' a d remembered-alike w
