-- What is handed back, as the code comes to it. Assumes nothing.
use mathlib.Core.Path.{◌≡◌, sym, ap, subst, ◌∙◌}
use mathlib.Core.Bool.{Bool}
use mathlib.Core.List.{List}
use Prim.Native.Nat.{ℕ, ◌≤◌, ◌<◌}
use native.Mathlib.Omega.{arith}
use lib.IntN.{ℤ, pos, nat_abs, ◌-ℤ◌}
use Rattle.refusals.specs.Refusal.{refusal}
use Rattle.refusals.proofs.Tests.{answered-no, answered-yes}
use Rattle.path_trip.specs.Path.{points}
use Rattle.shown_rows.specs.declared.turns.Counts.{Counts}
use Rattle.shown_rows.specs.Turns.{most_columns}
use Rattle.shown.specs.Shown.{lines_of, black, around}
use Rattle.shown_lines.specs.Lines.{field_half}
use Rattle.shown.proofs.Counts.{euler-turns}
use Rattle.shown_picture.specs.Rows.{most_count, Small, PictureCounted}
use Rattle.shown_picture.proofs.Reading.{rows-small}
use Rattle.shown_count.specs.Answer.{Shown}
use Rattle.shown_count.specs.Count.{shown_tests, picture, refused_by, counted_of, shown, CountsShown, ShownLent}
use Rattle.shown_count.proofs.Accepting.{Passed, passed}

-- the counts of a picture are small
pub counts-small : (b : ℕ → ℕ → Bool) {r : Counts} → PictureCounted b r → Small most_count r
unfolding around
counts-small b c = rows-small most_columns (omega arith) b most_columns (omega arith) c.counts

module _ (xs ys : List ℤ) (marks es : List ℕ) (m : ℤ) {k : ℕ} (e : k ≡ refusal (shown_tests xs ys marks es m)) where
  pub refused : 0 < k → CountsShown xs ys marks es m (refused_by k)
  unfolding shown
  refused h = answered-no k (refusal (shown_tests xs ys marks es m)) refused_by (counted_of (picture xs ys marks es m)) e h

  module _ (h : k ≤ 0) where
    -- what is not refused is accepted
    pub accepted : Passed xs ys marks es m
    accepted = passed xs ys marks es m (let z : refusal (shown_tests xs ys marks es m) ≡ 0 = omega arith in z)

    -- and counted
    pub counted : {t : ℕ} {c : Counts} {n : ℤ} → t ≡ nat_abs m → PictureCounted (black (lines_of field_half t (points xs ys marks) 0 es)) c
        → n ≡ pos c.outer -ℤ pos c.inner
        → CountsShown xs ys marks es m (record { answer = 0; black = c.black; euler = n })
    unfolding shown
    counted {t} {c} {n} q p w =
        let r = (subst (λ (x : ℕ). PictureCounted (black (lines_of field_half x (points xs ys marks) 0 es)) c) q p).counts in
        let b = picture xs ys marks es m in
        let outers = r.outers in
        let inners = r.inners in
        let number = w ∙ (λ i. pos (outers i) -ℤ pos (inners i)) ∙ sym (euler-turns b most_columns) in
        let blacks = r.black in
        answered-yes k (refusal (shown_tests xs ys marks es m)) refused_by (counted_of b) (record { answer = 0; black = c.black; euler = n }) e h
        (λ i. record { answer = 0; black = blacks i; euler = number i })

-- ---- in lent places
module _ (xs ys : List ℤ) (marks es : List ℕ) (m : ℤ) (blacks : ℕ) (number : ℤ) {s : Shown} (e : CountsShown xs ys marks es m s) where
  pub lent-refused : 0 < s.answer → ShownLent xs ys marks es m blacks number s.answer blacks number
  lent-refused h =
      let q = ap (λ (x : Shown). x.answer) e in
      record {
        answer = q;
        black_is = answered-no s.answer _ (λ _. blacks) (shown xs ys marks es m).black q h;
        euler_is = answered-no s.answer _ (λ _. number) (shown xs ys marks es m).euler q h;
      }

  pub lent-counted : s.answer ≤ 0 → {n : ℤ} → n ≡ s.euler → ShownLent xs ys marks es m blacks number 0 s.black n
  lent-counted h {n} w =
      let q = ap (λ (x : Shown). x.answer) e in
      record {
        answer = (let z : 0 ≡ s.answer = omega arith in z) ∙ q;
        black_is = answered-yes s.answer _ (λ _. blacks) (shown xs ys marks es m).black s.black q h (ap (λ (x : Shown). x.black) e);
        euler_is = answered-yes s.answer _ (λ _. number) (shown xs ys marks es m).euler n q h (w ∙ ap (λ (x : Shown). x.euler) e);
      }
