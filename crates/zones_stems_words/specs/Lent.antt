-- Blue zones and then stems over lent edges, the dimension, the group, stem adjust, whether the retired order is asked for and the width rule with its standards; places are lent for
-- the count of the edges passed over and for the anchor found.
use Rattle.std.specs.Prelude.{◌&&◌, List, ℕ, ℤ}
use Rattle.axis.specs.declared.kinds.Direction.TheVariants as Directions
use Rattle.stems.specs.Answer.{Stems}
use Rattle.zones_stems.specs.Joined.{align_blues_and_stems}
use Rattle.words.specs.Field.{choice_of, dimension_of, group_of, rule_of}
use Rattle.words.specs.Edge.{flat_axis}
use Rattle.words_shape.specs.Shape.{choice}
use Rattle.words_call.specs.Lent.{Lent, edges_front, both_in, choices}
use Rattle.stems_words.specs.Lent.{stems_words}

-- what the call hands back; it does not read the major direction of the axis
abbrev pub joined_aligned : List ℤ → ℤ → ℤ → ℤ → ℤ → ℤ → List ℤ → Stems
joined_aligned ws dim group adjust ttb rule standards =
    align_blues_and_stems (flat_axis ws (dimension_of dim) Directions.None) (group_of group) (choice_of adjust) (choice_of ttb) (rule_of rule) standards

abbrev pub JoinedLent : List ℤ → ℤ → ℤ → ℤ → ℤ → ℤ → List ℤ → ℤ → ℤ → ℕ → List ℤ × (ℤ × ℤ) → Type 0
JoinedLent ws dim group adjust ttb rule standards count found =
    Lent (edges_front ws (choices dim group adjust && both_in choice ttb rule)) (joined_aligned ws dim group adjust ttb rule standards).answer
    (stems_words ws (joined_aligned ws dim group adjust ttb rule standards)) (ws, (count, found))
