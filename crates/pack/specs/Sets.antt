-- Sets of numbers: how many of them are below a number, and the least set that holds some and what leads on from each.
use Rattle.std.specs.Prelude.{◌≡◌, Bool, true, false, cond, List, [], ◌∷◌, ◌++◌, ℕ, zero, suc, ◌+◌, get_or}

-- a number is in the set that a list has for each number whether it is
abbrev pub is_in : List Bool → ℕ → Bool
is_in s k = get_or s k false

-- the number in a place of a list
abbrev pub number_at : List ℕ → ℕ → ℕ
number_at l i = get_or l i 0

-- the numbers of a set below n, in rising order
unfoldable pub chosen : (ℕ → Bool) → ℕ → List ℕ
chosen s zero = []
chosen s (suc n) = chosen s n ++ cond (s n) (n ∷ []) []

-- with a number a set has those that a and b lead to from it
pub record Closed (a b : ℕ → ℕ) (s : ℕ → Bool) : Type 0 where
  pub one : (i : ℕ) → s i ≡ true → s (a i) ≡ true
  pub two : (i : ℕ) → s i ≡ true → s (b i) ≡ true

-- the least such set that holds the given numbers: every other one has all of its numbers
pub record Least (a b : ℕ → ℕ) (given s : ℕ → Bool) : Type 0 where
  pub holds : (k : ℕ) → given k ≡ true → s k ≡ true
  pub closed : Closed a b s
  pub least : (other : ℕ → Bool) → Closed a b other → ((k : ℕ) → given k ≡ true → other k ≡ true) → (k : ℕ) → s k ≡ true → other k ≡ true
