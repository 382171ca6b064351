-- The answer to a job, as the call comes to it.
use mathlib.Core.Path.{◌≡◌, subst}
use mathlib.Core.List.{List}
use Prim.Native.Nat.{ℕ, ◌≤◌, ◌<◌}
use lib.IntN.{ℤ}
use Rattle.refusals.specs.Refusal.{refusal}
use Rattle.refusals.proofs.Tests.{answered-no, answered-yes}
use Rattle.weak.specs.Weak.{weak_tests, result, Outcome}
use Rattle.log_text.specs.Answer.{refused_bytes, done_bytes, job_bytes, Puts}

-- bytes that are the same are written the same
pub puts-same : {xs ys text : List ℕ} {r : ℕ} {left : List ℕ} → xs ≡ ys → Puts xs text r left → Puts ys text r left
puts-same {xs} {ys} {text} {r} {left} e p = subst (λ (b : List ℕ). Puts b text r left) e p

module _ (o c : List ℤ) (t es : List ℕ) {k : ℕ} {d : List ℤ} (w : Outcome o c t es k d) {text : List ℕ} {r : ℕ} {left : List ℕ} where
  -- a refusal
  pub refused-put : 0 < k → Puts (refused_bytes k) text r left → Puts (job_bytes o c t es) text r left
  unfolding job_bytes
  refused-put h p = puts-same (answered-no k (refusal (weak_tests o c t es)) refused_bytes (done_bytes (result o c t es)) w.answer h) p

  -- the results
  pub done-put : k ≤ 0 → Puts (done_bytes d) text r left → Puts (job_bytes o c t es) text r left
  unfolding job_bytes
  done-put h p =
      puts-same (answered-yes k (refusal (weak_tests o c t es)) refused_bytes (done_bytes (result o c t es)) (done_bytes d) w.answer h
      (λ i. done_bytes (w.currents i))) p
