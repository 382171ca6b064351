-- The tests of a call in their order.
use mathlib.Core.Path.{◌≡◌, refl, sym, ap, subst, ◌∙◌}
use mathlib.Core.Bool.{Bool, true, false, cond, ◌&&◌}
use mathlib.Core.List.{List, [], ◌∷◌, ◌++◌}
use Prim.Native.Nat.{ℕ, zero, suc, ◌<◌, ◌≤◌}
use native.Mathlib.Omega.{arith}
use borrow.Author.Tests.{ltb-true}
use lib.Dec.{ltb}
use Rattle.refusals.specs.Refusal.{Test, ◌unless◌, refusal, or_refused, answered}

-- ---- and
pub and_first : (x y : Bool) → (x && y) ≡ true → x ≡ true
and_first true y h = refl
and_first false y h = h

pub and_second : (x y : Bool) → (x && y) ≡ true → y ≡ true
and_second true y h = h
and_second false y h = absurd (let z : ◌≡◌ {A = ℕ} 0 1 = cc in omega arith)

-- ---- how a call comes to its refusal
-- every number is one of a refusal
abbrev pub numbered : List Test → Bool
numbered [] = true
numbered (t ∷ ts) = ltb 0 t.number && numbered ts

-- no test, no refusal
none-refused : 0 ≡ refusal []
unfolding refusal
none-refused = refl

-- a refusal is kept by the tests behind it
pub or_kept : (k n : ℕ) (h : Bool) → 0 < k → k ≡ or_refused k h n
unfolding or_refused
or_kept zero n h e = absurd (omega arith)
or_kept (suc k) n h e = refl

-- where there is none, the test decides
pub or-decided : (k n : ℕ) (h : Bool) → k ≤ 0 → cond h 0 n ≡ or_refused k h n
unfolding or_refused
or-decided zero n h e = refl
or-decided (suc k) n h e = absurd (omega arith)

-- a test that does not refuse holds
pub or-held : (n : ℕ) (h : Bool) → 0 < n → or_refused 0 h n ≡ 0 → h ≡ true
unfolding or_refused
or-held n true p e = refl
or-held n false p e = absurd (omega (arith, e, p))

-- one test more
pub one_more : (ts : List Test) (n : ℕ) (h : Bool) → numbered ts ≡ true → or_refused (refusal ts) h n ≡ refusal (ts ++ (n unless h ∷ []))
unfolding refusal
one_more [] n h e = sym (or-decided 0 n h (omega arith))
one_more (t ∷ ts) n h e = go (one_more ts n h (and_second (ltb 0 t.number) _ e)) t.holds
  where
    go : or_refused (refusal ts) h n ≡ refusal (ts ++ (n unless h ∷ [])) → (b : Bool)
        → or_refused (cond b (refusal ts) t.number) h n ≡ cond b (refusal (ts ++ (n unless h ∷ []))) t.number
    go rest true = rest
    go rest false = sym (or_kept t.number n h (ltb-true 0 t.number (and_first _ _ e)))

-- k is the refusal by these tests: what the code has come to when it has made them
pub record Tested (k : ℕ) (ts : List Test) : Type 0 where
  pub refused : k ≡ refusal ts
  pub numbers : numbered ts ≡ true

-- before the first test
pub none-tested : Tested 0 []
none-tested = record { refused = none-refused; numbers = refl }

-- and behind each
numbered_more : (ts : List Test) (n : ℕ) (h : Bool) → numbered ts ≡ true → ltb 0 n ≡ true → numbered (ts ++ (n unless h ∷ [])) ≡ true
numbered_more [] n h e p = rw p
numbered_more (t ∷ ts) n h e p = rw (and_first (ltb 0 t.number) _ e) (numbered_more ts n h (and_second (ltb 0 t.number) _ e) p)

pub then-tested : {ts : List Test} {r k : ℕ} {g h : Bool} (n : ℕ) → Tested k ts → ltb 0 n ≡ true → r ≡ or_refused k g n → g ≡ h
    → Tested r (ts ++ (n unless h ∷ []))
then-tested {ts} {r} {k} {g} {h} n t p a c = record {
  refused = a ∙ (λ i. or_refused (t.refused i) (c i) n) ∙ one_more ts n h t.numbers;
  numbers = numbered_more ts n h t.numbers p;
}

-- ---- what no refusal says of the tests, and back
-- every test holds
abbrev pub AllHold : List Test → Type 0
AllHold [] = true ≡ true
AllHold (t ∷ ts) = (t.holds ≡ true) × AllHold ts

pub all_hold : (ts : List Test) → numbered ts ≡ true → refusal ts ≡ 0 → AllHold ts
unfolding refusal
all_hold [] e h = refl
all_hold (t ∷ ts) e h = go t.holds refl h (all_hold ts (and_second (ltb 0 t.number) _ e))
  where
    go : (b : Bool) → t.holds ≡ b → cond b (refusal ts) t.number ≡ 0 → (refusal ts ≡ 0 → AllHold ts) → (t.holds ≡ true) × AllHold ts
    go true q h rest = (q, rest h)
    go false q h rest = absurd (let z = ltb-true 0 t.number (and_first _ _ e) in omega (arith, h))

pub no-refusal : (ts : List Test) → AllHold ts → refusal ts ≡ 0
unfolding refusal
no-refusal [] h = refl
no-refusal (t ∷ ts) h = ap (λ (b : Bool). cond b (refusal ts) t.number) h.0 ∙ no-refusal ts h.1

-- the same of an answer that is none
pub all_held : {ts : List Test} {k : ℕ} → Tested k ts → k ≤ 0 → AllHold ts
all_held {ts} {k} t h = let z : k ≡ 0 = omega arith in all_hold ts t.numbers (sym t.refused ∙ z)

-- ---- the outcome, as the code comes to it
pub answered-no : {A : Type 0} (k j : ℕ) (refused : ℕ → A) (result : A) → k ≡ j → 0 < k → refused k ≡ answered j refused result
answered-no {A} k j refused result e h = subst (λ (i : ℕ). refused k ≡ answered i refused result) e (go k h)
  where
    go : (k : ℕ) → 0 < k → refused k ≡ answered k refused result
    go zero h = absurd (omega arith)
    go (suc k) h = refl

pub answered-yes : {A : Type 0} (k j : ℕ) (refused : ℕ → A) (result x : A) → k ≡ j → k ≤ 0 → x ≡ result → x ≡ answered j refused result
answered-yes {A} k j refused result x e h q = let z : j ≡ 0 = omega arith in subst (λ (i : ℕ). x ≡ answered i refused result) (sym z) q

-- ---- tests behind others
-- the refusal by the first tests, or by the others where these refuse nothing
pub own_first : (ts us : List Test) → numbered ts ≡ true → refusal (ts ++ us) ≡ answered (refusal ts) (λ (k : ℕ). k) (refusal us)
unfolding refusal
own_first [] us e = refl
own_first (t ∷ ts) us e = go (own_first ts us (and_second (ltb 0 t.number) _ e)) t.holds
  where
    go : refusal (ts ++ us) ≡ answered (refusal ts) (λ (k : ℕ). k) (refusal us) → (b : Bool)
        → cond b (refusal (ts ++ us)) t.number ≡ answered (cond b (refusal ts) t.number) (λ (k : ℕ). k) (refusal us)
    go rest true = rest
    go rest false = answered-no t.number t.number (λ (k : ℕ). k) (refusal us) refl (ltb-true 0 t.number (and_first _ _ e))
