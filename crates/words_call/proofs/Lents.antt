-- The ways through a call over lent words.
use mathlib.Core.Path.{◌≡◌, refl, sym, ap, ◌∙◌}
use mathlib.Core.Bool.{Bool, true, false, cond}
use mathlib.Core.List.{List, []}
use Prim.Native.Nat.{ℕ, zero, suc, ◌≤◌, ◌<◌}
use native.Mathlib.Omega.{arith}
use borrow.Author.Tests.{ne_eqb}
use lib.Dec.{eqb}
use Rattle.refusals.specs.Refusal.{Test, too_long, refusal, answered}
use Rattle.words_call.specs.Lent.{Lent, refused_or, front, not_words}

-- ---- the tests in front, as the code comes to their refusal
module _ (whole short shown : Bool) where
  -- a length is not of whole records
  pub not-whole : whole ≡ false → not_words ≡ refusal (front whole short shown)
  unfolding refusal
  not-whole e = rw e

  -- the list is too long
  pub not_short : whole ≡ true → short ≡ false → too_long ≡ refusal (front whole short shown)
  unfolding refusal
  not_short e f = rw (e, f)

  -- a word is none of its field's, and all are
  pub not-shown : whole ≡ true → short ≡ true → shown ≡ false → not_words ≡ refusal (front whole short shown)
  unfolding refusal
  not-shown e f g = rw (e, f, g)

  pub all_shown : whole ≡ true → short ≡ true → shown ≡ true → 0 ≡ refusal (front whole short shown)
  unfolding refusal
  all_shown e f g = rw (e, f, g)

-- they refuse, and what is behind them is not asked; they do not, and it is
pub refused-first : (ts : List Test) (a : ℕ) {k : ℕ} → k ≡ refusal ts → 0 < k → k ≡ refused_or ts a
unfolding refused_or
refused-first ts a {k} e h = by (refusal ts) e
  where
    by : (j : ℕ) → k ≡ j → k ≡ answered j (λ (i : ℕ). i) a
    by zero q = absurd (omega arith)
    by (suc j) q = q

pub passed_first : (ts : List Test) {a b k : ℕ} → k ≡ refusal ts → k ≤ 0 → b ≡ a → b ≡ refused_or ts a
unfolding refused_or
passed_first ts {a} {b} {k} e h q = by (refusal ts) e
  where
    by : (j : ℕ) → k ≡ j → b ≡ answered j (λ (i : ℕ). i) a
    by zero z = q
    by (suc j) z = absurd (omega arith)

-- ---- a part of what is lent, behind the tests
-- no test is left
none_left : (answer : ℕ) → answer ≡ refused_or [] answer
unfolding refused_or refusal
none_left answer = refl

-- the call refuses
pub refused : {A : Type 0} {answer : ℕ} {new old : A} → 0 < answer → Lent [] answer new old answer old
refused {A} {answer} {new} {old} h = record { number = none_left answer; held = rw (ne_eqb answer 0 (λ e. omega arith)) }

-- two things are lent
pub lent-pair :
    {A B : Type 0} {tests : List Test} {answer : ℕ} {new old now : A} {new' old' now' : B} {r r' : ℕ} → Lent tests answer new old r now
    → Lent tests answer new' old' r' now'
    → Lent {A = A × B} tests answer (new, new') (old, old') r (now, now')
lent-pair {A} {B} {tests} {answer} {new} {old} {now} {new'} {old'} {now'} {r} {r'} a b =
    record { number = a.number; held = by (eqb r 0) a.held (b.held ∙ ap (λ (n : ℕ). cond (eqb n 0) new' old') (b.number ∙ sym a.number)) }
  where
    by : (t : Bool) → now ≡ cond t new old → now' ≡ cond t new' old' → ◌≡◌ {A = A × B} (now, now') (cond t (new, new') (old, old'))
    by true p q = rw (p, q)
    by false p q = rw (p, q)

-- ---- the whole call
-- the tests in front refuse
pub refused-before : {A : Type 0} {tests : List Test} {answer k : ℕ} {new old : A} → k ≡ refusal tests → 0 < k → Lent tests answer new old k old
unfolding refused_or
refused-before {A} {tests} {answer} {k} {new} {old} e h = record { number = by (refusal tests) e; held = rw (ne_eqb k 0 (λ z. omega arith)) }
  where
    by : (j : ℕ) → k ≡ j → k ≡ answered j (λ (i : ℕ). i) answer
    by zero q = absurd (omega arith)
    by (suc j) q = q
