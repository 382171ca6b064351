-- The stem pass over lent edges, the dimension, the group, stem adjust, whether the retired order is asked for, the anchor or its absence and the width rule with its standards; places
-- are lent for the count of the edges passed over and for the anchor found.
use Rattle.std.specs.Prelude.{◌&&◌, List, ℕ, ℤ, pos}
use Rattle.axis.specs.declared.kinds.Direction.TheVariants as Directions
use Rattle.stems.specs.Answer.{Stems}
use Rattle.stems.specs.Stems.{align_stem_edges}
use Rattle.words.specs.Field.{choice_of, dimension_of, group_of, rule_of, link_word}
use Rattle.words.specs.Edge.{flat_axis, edges_over}
use Rattle.words_shape.specs.Shape.{choice}
use Rattle.words_call.specs.Lent.{Lent, edges_front, both_in, choices, named_anchor}

-- what the call hands back; it does not read the major direction of the axis
abbrev pub stems_aligned : List ℤ → ℤ → ℤ → ℤ → ℤ → ℤ → ℤ → List ℤ → Stems
stems_aligned ws dim group adjust ttb anchor rule standards =
    align_stem_edges (flat_axis ws (dimension_of dim) Directions.None) (group_of group) (choice_of adjust) (choice_of ttb) (named_anchor anchor) (rule_of rule) standards

-- the edges, the count of those passed over, and the anchor
abbrev pub stems_words : List ℤ → Stems → List ℤ × (ℤ × ℤ)
stems_words ws s = (edges_over ws s.axis, (pos s.count, link_word s.anchor))

abbrev pub StemsLent : List ℤ → ℤ → ℤ → ℤ → ℤ → ℤ → ℤ → List ℤ → ℤ → ℤ → ℕ → List ℤ × (ℤ × ℤ) → Type 0
StemsLent ws dim group adjust ttb anchor rule standards count found =
    Lent (edges_front ws (choices dim group adjust && both_in choice ttb rule)) (stems_aligned ws dim group adjust ttb anchor rule standards).answer
    (stems_words ws (stems_aligned ws dim group adjust ttb anchor rule standards)) (ws, (count, found))
