-- What is printed for a log (document 02, #103): the reply to each of its lines, one behind the other.
use Rattle.std.specs.Prelude.{◌≡◌, List, [], ◌∷◌, ◌++◌, ℕ, ◌+◌, ◌≤◌, ◌<◌, length, take, drop}
use Rattle.log_lines.specs.Lines.{Line, lines_from, lines}
use Rattle.log_reply.specs.Reply.{reply, most_reply}
use Rattle.log_blocks.specs.declared.blocks.Refitted.{Refitted}

-- the replies to lines
unfoldable pub replies : List Line → List ℕ
replies [] = []
replies (l ∷ ls) = reply l.bytes l.ended ++ replies ls

-- what `refit` prints for a stream
abbrev pub printed : List ℕ → List ℕ
printed stream = replies (lines stream)

-- ---- what the calls owe
-- text is written behind the first `size` bytes, and there are r then
pub record Appends (text out : List ℕ) (size r : ℕ) (left : List ℕ) : Type 0 where
  pub count : r ≡ size + length text
  pub in_list : r ≤ length out
  pub leaves : take r left ≡ take size out ++ text

-- what is written now, and what is printed for the rest of the stream by what is held then, is what is printed for the stream, whatever follows the block; and
-- something of the block is taken
pub record Refits (block : List ℕ) (from : ℕ) (l : List ℕ) (count : ℕ) (out : List ℕ) (r : Refitted) (d left : List ℕ) : Type 0 where
  pub list_kept : length d ≡ length l
  pub in_list : r.size ≤ length left
  pub held : r.count ≤ length d
  pub further : from < length block → most_reply ≤ length out → from < r.at
  pub gives : (more : List ℕ) → replies (lines_from (take count l) (drop from block ++ more)) ≡ take r.size left ++ replies (lines_from (take r.count d) (drop r.at block ++ more))

-- what is written is what is printed for the line that is held, behind which nothing follows
pub record Rests (l : List ℕ) (count r : ℕ) (left : List ℕ) : Type 0 where
  pub in_list : r ≤ length left
  pub gives : take r left ≡ replies (lines_from (take count l) [])
