-- The lowercase m rule over lent edges and a group.
use Rattle.std.specs.Prelude.{List, ℕ, ℤ}
use Rattle.lowercase_m.specs.Answer.{Hinted}
use Rattle.lowercase_m.specs.M.{hint_lowercase_m}
use Rattle.words.specs.Field.{group_of}
use Rattle.words.specs.Edge.{edges_over}
use Rattle.words_shape.specs.Shape.{is_in, choice}
use Rattle.words_call.specs.Lent.{Lent, edges_front, edges_of}

-- what the call hands back
abbrev pub mHinted : List ℤ → ℤ → Hinted
mHinted ws group = hint_lowercase_m (edges_of ws) (group_of group)

-- what the call answers and leaves
abbrev pub MLent : List ℤ → ℤ → ℕ → List ℤ → Type 0
MLent ws group = Lent (edges_front ws (is_in choice group)) (mHinted ws group).answer (edges_over ws (mHinted ws group).axis) ws
