-- What one call takes of a line: the bytes that a block has of it in front of its first line feed.
use Rattle.std.specs.Prelude.{◌≡◌, Bool, true, false, cond, List, [], ◌∷◌, ◌++◌, ℕ, ◌+◌, eqb, length, take, drop}
use Rattle.log_lines.specs.Lines.{line_feed}
use Rattle.log_lines.specs.declared.cutter.Taken.{Taken}

-- the bytes in front of the first line feed
unfoldable pub piece : List ℕ → List ℕ
piece [] = []
piece (b ∷ bs) = cond (eqb b line_feed) [] (b ∷ piece bs)

-- whether there is a line feed
unfoldable pub feeds : List ℕ → Bool
feeds [] = false
feeds (b ∷ bs) = cond (eqb b line_feed) true (feeds bs)

-- what is held of a line whose bytes `begun` were held, and of which the bytes bs follow in a block
unfoldable pub held_with : ℕ → List ℕ → List ℕ → List ℕ
held_with places begun bs = take places (begun ++ piece bs)

-- the answer r and the list d at the end of a call, for the bytes bs that a block has from the place `at` on, where `begun` was held in the list l
pub record Cut (bs : List ℕ) (at : ℕ) (begun l : List ℕ) (r : Taken) (d : List ℕ) : Type 0 where
  pub ended : r.ended ≡ feeds bs
  pub behind : r.at ≡ at + length (piece bs) + cond (feeds bs) 1 0
  pub count : r.count ≡ length (held_with (length l) begun bs)
  pub list : d ≡ held_with (length l) begun bs ++ drop (length (held_with (length l) begun bs)) l

-- what `take_line` owes its caller
abbrev pub Took : List ℕ → ℕ → List ℕ → ℕ → Taken → List ℕ → Type 0
Took block from l count r d = Cut (drop from block) from (take count l) l r d
