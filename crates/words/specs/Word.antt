-- The words of a list, and lists by their elements.
use Rattle.std.specs.Prelude.{List, [], ◌∷◌, ◌++◌, ℕ, zero, suc, ◌+◌, ◌-◌, length, get_or, take, drop, replicate, ℤ, pos}

-- a word, and 0 past the end
abbrev pub word_at : List ℤ → ℕ → ℤ
word_at ws i = get_or ws i (pos 0)

-- a buffer with words written from a place on; what stands in front of them and behind them is kept
unfoldable pub written : List ℤ → ℕ → List ℤ → List ℤ
written out at ws = take at out ++ ws ++ drop (at + length ws) out

-- the first n of a sequence
unfoldable pub firsts : {A : Type 0} → (ℕ → A) → ℕ → List A
firsts f zero = []
firsts f (suc n) = firsts f n ++ f n ∷ []

-- the first n of a sequence of word lists, one behind the other
unfoldable pub joined : (ℕ → List ℤ) → ℕ → List ℤ
joined f zero = []
joined f (suc n) = joined f n ++ f n

-- a table with the first n of a sequence, and its other places empty
unfoldable pub table : {A : Type 0} → ℕ → A → (ℕ → A) → ℕ → List A
table size empty f n = firsts f n ++ replicate (size - n) empty
