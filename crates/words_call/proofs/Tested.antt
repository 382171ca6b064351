-- The tests of a call over lent records in their order, and one loop over the words of the records.
use mathlib.Core.Path.{◌≡◌, refl, sym, subst}
use mathlib.Core.Bool.{Bool, true, false, cond, ◌&&◌}
use mathlib.Core.List.{List, [], ◌∷◌}
use mathlib.Core.Logic.{⊎_elim}
use Prim.Native.Nat.{ℕ, zero, suc, ◌+◌, ◌*◌, ◌≤◌, ◌<◌}
use native.Mathlib.Nat.{eq-or-lt_of_le}
use native.Mathlib.Omega.{arith}
use lib.ListN.{length}
use lib.IntN.{ℤ}
use Rattle.refusals.specs.Refusal.{◌unless◌, bad_index, out_of_range, refusal}
use Rattle.refusals.proofs.Tests.{all_hold}
use Rattle.words.specs.Record.{Layout, count_of}
use Rattle.words_call.specs.Lent.{refused_or, front}
use Rattle.words_call.specs.Held.{tested_of}
use Rattle.words_call.proofs.Lents.{all_shown, passed_first}

-- ---- the tests, as the code comes to their refusal
pub tested-own : (own : ℕ) (indexed ranged : Bool) → 0 < own → own ≡ tested_of own indexed ranged
unfolding tested_of
tested-own zero indexed ranged h = absurd (omega arith)
tested-own (suc k) indexed ranged h = refl

pub tested-index : (own : ℕ) (indexed ranged : Bool) → own ≤ 0 → indexed ≡ false → bad_index ≡ tested_of own indexed ranged
unfolding tested_of refusal
tested-index zero indexed ranged h e = rw e
tested-index (suc k) indexed ranged h e = absurd (omega arith)

pub tested-range : (own : ℕ) (indexed ranged : Bool) → own ≤ 0 → indexed ≡ true → ranged ≡ false → out_of_range ≡ tested_of own indexed ranged
unfolding tested_of refusal
tested-range zero indexed ranged h e f = rw (e, f)
tested-range (suc k) indexed ranged h e f = absurd (omega arith)

pub tested-none : (own : ℕ) (indexed ranged : Bool) → own ≤ 0 → indexed ≡ true → ranged ≡ true → 0 ≡ tested_of own indexed ranged
unfolding tested_of refusal
tested-none zero indexed ranged h e f = rw (e, f)
tested-none (suc k) indexed ranged h e f = absurd (omega arith)

-- two tests by one number are one
pub in_order : (i n m p : Bool)
    → cond i (cond n (cond m (cond p 0 out_of_range) out_of_range) bad_index) bad_index ≡ cond (i && n) (cond (m && p) 0 out_of_range) bad_index
in_order false n m p = refl
in_order true false m p = refl
in_order true true false p = refl
in_order true true true p = refl

-- ---- no refusal
-- what the tests tell then
pub record Holds (own : ℕ) (indexed ranged : Bool) : Type 0 where
  pub right : own ≡ 0
  pub indices : indexed ≡ true
  pub numbers : ranged ≡ true

pub tested-holds : (own : ℕ) (indexed ranged : Bool) → tested_of own indexed ranged ≡ 0 → Holds own indexed ranged
unfolding tested_of
tested-holds zero indexed ranged e =
    let t = all_hold (bad_index unless indexed ∷ out_of_range unless ranged ∷ []) refl e in record { right = refl; indices = t.0; numbers = t.1.0 }
tested-holds (suc k) indexed ranged e = absurd (omega (arith, e))

-- and those in front
pub front-tested : (whole short shown : Bool) (own : ℕ) (indexed ranged : Bool) → whole ≡ true → short ≡ true → shown ≡ true → Holds own indexed ranged
    → 0 ≡ refused_or (front whole short shown) (tested_of own indexed ranged)
front-tested whole short shown own indexed ranged p q r h =
    passed_first (front whole short shown) (all_shown whole short shown p q r) (omega arith)
    (tested-none own indexed ranged (omega (arith, h.right)) h.indices h.numbers)

-- ---- one loop over the records of a list
-- the first i of n hold, each by where its words stand
pub record Passed {R : Type 0} (L : Layout R) (Held : ℕ → Type 0) (ws : List ℤ) (n i : ℕ) : Type 0 where
  pub within : i ≤ n
  pub few : n ≤ L.most
  pub count : n ≡ count_of L ws
  pub long : length ws ≤ L.size * n
  pub held : (k : ℕ) → k < i → Held (L.size * k)

module _ {R : Type 0} (L : Layout R) (Held : ℕ → Type 0) (ws : List ℤ) (n : ℕ) where
  pub passed_none : n ≤ L.most → n ≡ count_of L ws → length ws ≤ L.size * n → Passed L Held ws n 0
  passed_none few e l = record { within = omega arith; few = few; count = e; long = l; held = λ k q. absurd (omega arith) }

  pub passed-more : (i : ℕ) → Passed L Held ws n i → i < n → Held (L.size * i) → Passed L Held ws n (i + 1)
  passed-more i p h f = record {
    within = omega arith;
    few = p.few;
    count = p.count;
    long = p.long;
    held =
        λ (k : ℕ) (q : k < i + 1). ⊎_elim (λ (e : k ≡ i). subst (λ (x : ℕ). Held (L.size * x)) (sym e) f) (λ (l : k < i). p.held k l)
        (eq-or-lt_of_le (omega arith));
  }
