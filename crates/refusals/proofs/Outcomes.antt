-- What the outcome of a test says of the refusal by a list of tests, the answer behind a `?`, and that what a promise says of an outcome tells it from every
-- other.
use Rattle.std.specs.Prelude.{◌≡◌, Bool, true, false, List, [], ◌∷◌, ◌++◌, ℕ, ◌-◌, ltb, get_or, Result, Ok, Err}
use Rattle.std.proofs.Common.{refl, sym, ap, ◌∙◌, ◌<◌, lit<, arith}
use Rattle.std.specs.Result.{IsErrAnd}
use Rattle.refusals.specs.declared.order.Refusal.{Refusal}
use Rattle.refusals.specs.declared.order.Refusal.TheVariants as Refusals
use Rattle.refusals.specs.Refusal.{Test, ◌unless◌, refusal, or_refused}
use Rattle.refusals.specs.Outcome.{number_of, answer_of, required, Required}
use Rattle.refusals.proofs.Tests.{Tested, then-tested, own_first, answered-no}

-- a refusal has a number above 0
pub number-above : (r : Refusal) → 0 < number_of r
number-above Refusals.TooLong = lit< tt
number-above Refusals.BadParameter = lit< tt
number-above Refusals.BadIndex = lit< tt
number-above Refusals.OutOfRange = lit< tt
number-above Refusals.NoRoom = lit< tt
number-above Refusals.NotFrame = lit< tt
number-above Refusals.BrokenRing = lit< tt
number-above Refusals.TooSteep = lit< tt
number-above Refusals.Unmatched = lit< tt
number-above Refusals.Retired = lit< tt
number-above Refusals.NotWords = lit< tt

-- an answer above 0 is that of a refusal, and 0 that of none
pub answer-no : {T : Type 0} (o : Result T Refusal) (r : Refusal) → o ≡ Err r → answer_of o ≡ number_of r
answer-no o r e = ap answer_of e

pub answer-yes : {T : Type 0} (o : Result T Refusal) (x : T) → o ≡ Ok x → answer_of o ≡ 0
answer-yes o x e = ap answer_of e

number-tested : (r : Refusal) → ltb 0 (number_of r) ≡ true
number-tested Refusals.TooLong = refl
number-tested Refusals.BadParameter = refl
number-tested Refusals.BadIndex = refl
number-tested Refusals.OutOfRange = refl
number-tested Refusals.NoRoom = refl
number-tested Refusals.NotFrame = refl
number-tested Refusals.BrokenRing = refl
number-tested Refusals.TooSteep = refl
number-tested Refusals.Unmatched = refl
number-tested Refusals.Retired = refl
number-tested Refusals.NotWords = refl

-- ---- the exit of a `?`
-- it hands the refusal on
pub exit-answer : {T : Type 0} (e : Refusal) (o : Result T Refusal) → IsErrAnd o (λ (y : Refusal). y ≡ e) → answer_of o ≡ number_of e
exit-answer e (Ok x) h = absurd h
exit-answer e (Err y) h = ap number_of h

-- ---- one test
-- its outcome is the refusal that it comes to
required-is : (g : Bool) (r : Refusal) (o : Result (Unit {0}) Refusal) → o ≡ required g r → answer_of o ≡ or_refused 0 g (number_of r)
unfolding or_refused
required-is true r o e = ap answer_of e
required-is false r o e = ap answer_of e

-- one that does not refuse holds
pub is-required : (g : Bool) (r : Refusal) (x : Unit {0}) → Required g r (Ok x) → g ≡ true
is-required true r x q = refl
is-required false r x q = let z : Ok x ≡ Err r = q.outcome in cc

-- ---- tests one behind the other
-- behind tests that hold, one that refuses or holds
tested : {ts : List Test} {g h : Bool} {r : Refusal} {o : Result (Unit {0}) Refusal} → Tested 0 ts → Required g r o → g ≡ h
    → Tested (answer_of o) (ts ++ (number_of r unless h ∷ []))
tested {ts} {g} {h} {r} {o} t q e = then-tested (number_of r) t (number-tested r) (required-is g r o q.outcome) e

-- one more that holds
pub then-held : {ts : List Test} {g h : Bool} {r : Refusal} {x : Unit {0}} → Tested 0 ts → Required g r (Ok x) → g ≡ h → Tested 0 (ts ++ (number_of r unless h ∷ []))
then-held t q e = tested t q e

-- one that refuses: the tests behind it are not asked
pub then-refused : {ts : List Test} {g h : Bool} {r e : Refusal} {k : ℕ} (us : List Test) → Tested 0 ts → Required g r (Err e) → g ≡ h → k ≡ number_of e
    → k ≡ refusal ((ts ++ (number_of r unless h ∷ [])) ++ us)
then-refused {ts} {g} {h} {r} {e} {k} us t q s a =
    let w = tested t q s in
    a ∙ answered-no (number_of e) (refusal (ts ++ (number_of r unless h ∷ []))) (λ (i : ℕ). i) (refusal us) w.refused (number-above e)
    ∙ sym (own_first (ts ++ (number_of r unless h ∷ [])) us w.numbers)

-- the last one, whose outcome is handed back
pub then-last : {ts : List Test} {g h : Bool} {r : Refusal} {o : Result (Unit {0}) Refusal} → Tested 0 ts → Required g r o → g ≡ h
    → answer_of o ≡ refusal (ts ++ (number_of r unless h ∷ []))
then-last t q e = (tested t q e).refused

-- ---- what is handed back behind a `?`
-- the refusal alone
pub exit : {T : Type 0} (e : Refusal) (o : Result T Refusal) → IsErrAnd o (λ (y : Refusal). y ≡ e) → o ≡ Err e
exit e (Ok x) h = absurd h
exit e (Err y) h = ap Err h

-- ---- outcomes told apart
-- the refusals by 1 to 10
abbrev in_order : List Refusal
in_order =
    Refusals.TooLong ∷ Refusals.BadParameter ∷ Refusals.BadIndex ∷ Refusals.OutOfRange ∷ Refusals.NoRoom ∷ Refusals.NotFrame ∷ Refusals.BrokenRing
    ∷ Refusals.TooSteep ∷ Refusals.Unmatched ∷ Refusals.Retired ∷ []

-- the refusal by a number
abbrev refusal_of : ℕ → Refusal
refusal_of n = get_or in_order (n - 1) Refusals.NotWords

number-back : (r : Refusal) → refusal_of (number_of r) ≡ r
number-back Refusals.TooLong = refl
number-back Refusals.BadParameter = refl
number-back Refusals.BadIndex = refl
number-back Refusals.OutOfRange = refl
number-back Refusals.NoRoom = refl
number-back Refusals.NotFrame = refl
number-back Refusals.BrokenRing = refl
number-back Refusals.TooSteep = refl
number-back Refusals.Unmatched = refl
number-back Refusals.Retired = refl
number-back Refusals.NotWords = refl

-- no two refusals share a number
pub number-one : (r s : Refusal) → number_of r ≡ number_of s → r ≡ s
number-one r s e = sym (number-back r) ∙ ap refusal_of e ∙ number-back s

-- what has the answer, and what is handed back where nothing is refused, is that of one outcome
pub with-answer-one : {T A : Type 0} (f : Result T Refusal → A) (answer : A → ℕ) → ((x : T) → answer (f (Ok x)) ≡ 0)
    → ((r : Refusal) → answer (f (Err r)) ≡ number_of r) → ((x y : T) → f (Ok x) ≡ f (Ok y) → x ≡ y) → (r s : Result T Refusal) → f r ≡ f s → r ≡ s
with-answer-one f answer a b h (Ok x) (Ok y) e = ap Ok (h x y e)
with-answer-one f answer a b h (Ok x) (Err s) e = let k : 0 ≡ number_of s = sym (a x) ∙ ap answer e ∙ b s in absurd (omega (arith, k, number-above s))
with-answer-one f answer a b h (Err r) (Ok y) e = let k : number_of r ≡ 0 = sym (b r) ∙ ap answer e ∙ a y in absurd (omega (arith, k, number-above r))
with-answer-one f answer a b h (Err r) (Err s) e = ap Err (number-one r s (sym (b r) ∙ ap answer e ∙ b s))

-- and where nothing is handed back, the answer alone is
pub answer-one : (r s : Result (Unit {0}) Refusal) → answer_of r ≡ answer_of s → r ≡ s
answer-one = with-answer-one answer_of (λ (n : ℕ). n) (λ x. refl) (λ r. refl) (λ x y e. refl)
