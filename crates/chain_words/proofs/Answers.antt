-- Calls over lent words by their tests and their own answer.
use mathlib.Core.Path.{◌≡◌, ap, ◌∙◌}
use mathlib.Core.Bool.{Bool, true, cond, ◌&&◌}
use mathlib.Core.List.{List}
use Prim.Native.Nat.{ℕ}
use lib.Dec.{eqb}
use Rattle.refusals.specs.Refusal.{Test, refusal, answered}
use Rattle.words_call.specs.Lent.{Lent, refused_or}

-- both tests hold
pub both : {a b : Bool} → a ≡ true → b ≡ true → (a && b) ≡ true
both p q = rw (p, q)

-- where no test refuses and the call's own answer is 0, the answer is 0, and what is lent holds the new
pub lent-done : {A : Type 0} {tests : List Test} {answer : ℕ} {new old now : A} {r : ℕ} → Lent tests answer new old r now → refusal tests ≡ 0 → answer ≡ 0
    → (r ≡ 0) × (now ≡ new)
unfolding refused_or
lent-done {A} {tests} {answer} {new} {old} {now} {r} l none own =
    let z : r ≡ 0 = l.number ∙ ap (λ (k : ℕ). answered k (λ (i : ℕ). i) answer) none ∙ own in
    (z, l.held ∙ ap (λ (k : ℕ). cond (eqb k 0) new old) z)
