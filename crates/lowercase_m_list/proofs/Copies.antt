-- Edges copied from one list to the front of another.
use mathlib.Core.Path.{◌≡◌, refl, ◌∙◌}
use mathlib.Core.List.{List}
use Prim.Native.Nat.{ℕ, ◌≤◌}
use native.Mathlib.Omega.{arith}
use lib.ListN.{length, take, drop, length-append, length-drop}
use lib.Seq.{length-take-le}
use Rattle.axis.specs.declared.edge.Edge.{Edge}
use Rattle.lowercase_m_list.specs.Table.{copied}

-- none
pub copied_none : (from to : List Edge) → copied 0 from to ≡ to
unfolding copied
copied_none from to = refl

-- the length stays
pub copied-length : (from to : List Edge) (i : ℕ) → i ≤ length from → i ≤ length to → length (copied i from to) ≡ length to
unfolding copied
copied-length from to i h k = length-append (take i from) (drop i to) ∙ omega (arith, length-take-le i from h, length-drop i to)
