-- Indices compared and read.
use Rattle.std.specs.Prelude.{Bool, true, false, ℕ, eqb, ℤ, Option, None, Some}

-- an index into a list, or its absence
abbrev pub Link : Type 0
Link = Option ℕ

-- the blue zone of an edge by its fitted position, or its absence
abbrev pub Blue : Type 0
Blue = Option ℤ

-- there is a link
abbrev pub is_linked : Link → Bool
is_linked None = false
is_linked (Some k) = true

-- a link is to an index
unfoldable pub links_to : Link → ℕ → Bool
links_to None ix = false
links_to (Some k) ix = eqb k ix

-- the index that a link holds, or another where it holds none
abbrev pub index_or : ℕ → Link → ℕ
index_or other None = other
index_or other (Some k) = k
