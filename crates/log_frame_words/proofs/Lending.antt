-- The calls over lent places, by what they hand back.
use mathlib.Core.Path.{◌≡◌, refl, sym, ap, ◌∙◌}
use mathlib.Core.Bool.{Bool, false, cond}
use mathlib.Core.List.{List, []}
use Prim.Native.Nat.{ℕ, zero, suc, ◌<◌}
use native.Mathlib.Omega.{arith}
use borrow.Author.Tests.{ne_eqb}
use lib.Dec.{eqb}
use lib.ListN.{length}
use Rattle.refusals.specs.Refusal.{Test, refusal, answered}
use Rattle.words_call.specs.Lent.{Lent, refused_or}
use Rattle.log_frame.specs.Frame.{Frame, frame_digits, points_in, contours_in}
use Rattle.log_frame.specs.Write.{WritesFrame, write_tests, written_by, frame_written, line_written}
use Rattle.log_frame.specs.Read.{ReadsFrame, read_tests, read_by, frame_read, rooms_read}
use Rattle.log_frame_words.specs.Lent.{WritesLent, ReadsLent}
use Rattle.log_frame.specs.Answer.{Written, ReadFrame}
use Rattle.log_frame.proofs.Tested.{writable, few-points-in, few-contours-in}
use Rattle.log_frame.proofs.Composed.{frame-length}

-- a call that leaves something lent, and a count that its answer lets stand
module _ {A C : Type 0} (tests : List Test) {old new : A} {before counted : C} (none : C) where
  pub lent-call :
      {answer a : ℕ} {count now : C} {left : A} → answer ≡ answered (refusal tests) (λ (j : ℕ). j) 0 → count ≡ answered (refusal tests) (λ _. none) counted
      → left ≡ answered (refusal tests) (λ _. old) new → Lent [] answer count before a now → Lent {A = A × C} tests 0 (new, counted) (old, before) a (left, now)
  unfolding refused_or refusal
  lent-call {answer} {a} {count} {now} {left} p q s l = let h = by (refusal tests) p q s l.number l.held in record { number = h.0; held = h.1 }
    where
      by : (k : ℕ) → answer ≡ answered k (λ (j : ℕ). j) 0 → count ≡ answered k (λ _. none) counted → left ≡ answered k (λ _. old) new → a ≡ answer
          → now ≡ cond (eqb a 0) count before
          → (a ≡ answered k (λ (j : ℕ). j) 0) × (◌≡◌ {A = A × C} (left, now) (cond (eqb a 0) (new, counted) (old, before)))
      by zero p q s n h =
          let z = n ∙ p in
          let e = h ∙ ap (λ (i : ℕ). cond (eqb i 0) count before) z ∙ q in
          (z, (λ i. (s i, e i)) ∙ sym (ap (λ (i : ℕ). cond {A = A × C} (eqb i 0) (new, counted) (old, before)) z))
      by (suc k) p q s n h =
          let z = n ∙ p in
          let f : eqb a 0 ≡ false = ne_eqb a 0 (λ e. omega arith) in
          let e = h ∙ ap (λ (t : Bool). cond t count before) f in
          (z, (λ i. (s i, e i)) ∙ sym (ap (λ (t : Bool). cond {A = A × C} t (new, counted) (old, before)) f))

-- a call that does not refuse leaves the new
pub granted : {A : Type 0} {new old now : A} → now ≡ new → Lent [] 0 new old 0 now
unfolding refused_or refusal
granted e = record { number = refl; held = e }

-- a part of what a call hands back
part : {A B : Type 0} (g : A → B) (k : ℕ) (refused : ℕ → A) (done : A) → g (answered k refused done) ≡ answered k (λ (j : ℕ). g (refused j)) (g done)
part g zero refused done = refl
part g (suc k) refused done = refl

-- what holds of the work's outcome and of every refusal's holds of the call's
either : {A : Type 0} (P : A → Type 0) (k : ℕ) (refused : ℕ → A) (done : A) → ((j : ℕ) → P (refused j)) → (k ≡ 0 → P done) → P (answered k refused done)
either P zero refused done n d = d refl
either P (suc k) refused done n d = n (suc k)

-- ---- writing
module _ (f : Frame) (line : List ℕ) {r : Written} {left : List ℕ} (w : WritesFrame f line r left) where
  -- the count of digits is a small one
  pub few-digits : r.digits < 65536
  unfolding frame_written
  few-digits =
      let small =
      either (λ (x : Written). x.digits < 65536) (refusal (write_tests f line)) (λ (k : ℕ). written_by k 0) (written_by 0 (length (frame_digits f)))
      (λ j. omega arith)
      (λ e. omega (arith, frame-length f, (writable f line e).few-points, (writable f line e).few_contours)) in
      rw w.handed small

  -- with its count lent
  pub writes-lent : (digits : ℕ) {a digits' : ℕ} → Lent [] r.answer r.digits digits a digits' → WritesLent f line digits a (left, digits')
  unfolding frame_written line_written
  writes-lent digits l =
      let k = refusal (write_tests f line) in
      lent-call (write_tests f line) 0 (ap (λ (x : Written). x.answer) w.handed
      ∙ part (λ (x : Written). x.answer) k (λ (j : ℕ). written_by j 0) (written_by 0 (length (frame_digits f))))
      (ap (λ (x : Written). x.digits) w.handed ∙ part (λ (x : Written). x.digits) k (λ (j : ℕ). written_by j 0) (written_by 0 (length (frame_digits f))))
      w.leaves l

-- ---- reading
module _ (line : List ℕ) (rooms : Frame) {r : ReadFrame} {left : Frame} (w : ReadsFrame line rooms r left) where
  -- the counts are those of a byte
  pub few-counted : (r.points < 65536) × (r.contours < 65536)
  unfolding frame_read
  few-counted =
      let small =
      either (λ (x : ReadFrame). (x.points < 65536) × (x.contours < 65536)) (refusal (read_tests line rooms)) (λ (k : ℕ). read_by k 0 0)
      (read_by 0 (points_in line) (contours_in line))
      (λ j. (omega arith, omega arith)) (λ e. (omega (arith, few-points-in line), omega (arith, few-contours-in line))) in
      rw w.handed small

  -- with its counts lent
  pub reads-lent :
      (points contours : ℕ) {a : ℕ} {now : ℕ × ℕ} → Lent {A =
      ℕ × ℕ} [] r.answer (r.points, r.contours) (points, contours) a now → ReadsLent line rooms points contours a (left, now)
  unfolding frame_read rooms_read
  reads-lent points contours l =
      let k = refusal (read_tests line rooms) in
      lent-call (read_tests line rooms) (0, 0) (ap (λ (x : ReadFrame). x.answer) w.handed
      ∙ part (λ (x : ReadFrame). x.answer) k (λ (j : ℕ). read_by j 0 0) (read_by 0 (points_in line) (contours_in line)))
      (ap both w.handed ∙ part both k (λ (j : ℕ). read_by j 0 0) (read_by 0 (points_in line) (contours_in line))) w.leaves l
    where
      both : ReadFrame → ℕ × ℕ
      both x = (x.points, x.contours)
