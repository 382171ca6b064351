-- The lines of small streams, worked out by hand.
use mathlib.Core.Path.{◌≡◌, refl}
use mathlib.Core.Bool.{Bool, true, false}
use mathlib.Core.List.{List, [], ◌∷◌}
use Prim.Native.Nat.{ℕ}
use Rattle.log_lines.specs.Lines.{Line, last_line, lines_from, lines, held_lines}

abbrev line : List ℕ → Bool → Line
line bytes ended = record { bytes = bytes; ended = ended }

-- an empty stream has no line
none : lines [] ≡ []
unfolding lines_from last_line
none = refl

-- a line feed alone ends an empty line
empty : lines (10 ∷ []) ≡ line [] true ∷ []
unfolding lines_from last_line
empty = refl

-- what stands behind the last line feed is a line too
rest : lines (65 ∷ 66 ∷ 10 ∷ 10 ∷ 67 ∷ []) ≡ line (65 ∷ 66 ∷ []) true ∷ line [] true ∷ line (67 ∷ []) false ∷ []
unfolding lines_from last_line
rest = refl

-- a line that is longer than the list is one line, of which the beginning is held
long : held_lines 2 [] (65 ∷ 66 ∷ 67 ∷ 68 ∷ 10 ∷ 69 ∷ 10 ∷ []) ≡ line (65 ∷ 66 ∷ []) true ∷ line (69 ∷ []) true ∷ []
unfolding lines_from last_line
long = refl
