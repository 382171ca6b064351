-- The lines of a log (document 02, #103), over the bytes of its stream.
use Rattle.std.specs.Prelude.{Bool, true, false, cond, List, [], ◌∷◌, ◌++◌, map, ℕ, eqb, take}

-- the byte that ends a line
abbrev pub line_feed : ℕ
line_feed = 10

-- a line: its bytes, of which the line feed is none, and whether a line feed ends it
pub record Line : Type 0 where
  pub bytes : List ℕ
  pub ended : Bool

-- what stands behind the last line feed is a line with no line feed, if it is not empty
unfoldable pub last_line : List ℕ → List Line
last_line [] = []
last_line (b ∷ bs) = record { bytes = b ∷ bs; ended = false } ∷ []

-- the lines of a stream, of whose first line the bytes `begun` have been read
unfoldable pub lines_from : List ℕ → List ℕ → List Line
lines_from begun [] = last_line begun
lines_from begun (b ∷ bs) = cond (eqb b line_feed) (record { bytes = begun; ended = true } ∷ lines_from [] bs) (lines_from (begun ++ b ∷ []) bs)

-- the lines of a stream
abbrev pub lines : List ℕ → List Line
lines stream = lines_from [] stream

-- what a list of so many places holds of a line: its beginning
abbrev pub held_of : ℕ → Line → Line
held_of places l = record { bytes = take places l.bytes; ended = l.ended }

-- the lines of a stream as such a list holds them
abbrev pub held_lines : ℕ → List ℕ → List ℕ → List Line
held_lines places begun bytes = map (held_of places) (lines_from begun bytes)
