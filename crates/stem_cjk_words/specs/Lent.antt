-- The CJK stem over lent edges, the dimension, stem adjust, the width rule with its standards, two edges and the passed delta; a place is lent for the stem's
-- own delta.
use Rattle.std.specs.Prelude.{List, ℕ, ℤ}
use Rattle.axis.specs.declared.kinds.Direction.TheVariants as Directions
use Rattle.stems_cjk.specs.Answer.{StemCjk}
use Rattle.stems_cjk.specs.Hint.{hint_normal_stem_cjk}
use Rattle.words.specs.Field.{choice_of, dimension_of, rule_of}
use Rattle.words.specs.Edge.{flat_axis, edges_over}
use Rattle.words_call.specs.Lent.{Lent, edges_front, choices, named_edge}

-- what the call hands back; it does not read the major direction of the axis
abbrev pub stem_hinted : List ℤ → ℤ → ℤ → ℤ → List ℤ → ℤ → ℤ → ℤ → StemCjk
stem_hinted ws dim adjust rule standards edge edge2 delta =
    hint_normal_stem_cjk (flat_axis ws (dimension_of dim) Directions.None) (choice_of adjust) (rule_of rule) standards (named_edge edge) (named_edge edge2) delta

abbrev pub stem_words : List ℤ → StemCjk → List ℤ × ℤ
stem_words ws s = (edges_over ws s.axis, s.delta)

abbrev pub StemLent : List ℤ → ℤ → ℤ → ℤ → List ℤ → ℤ → ℤ → ℤ → ℤ → ℕ → List ℤ × ℤ → Type 0
StemLent ws dim adjust rule standards edge edge2 delta own =
    Lent (edges_front ws (choices dim adjust rule)) (stem_hinted ws dim adjust rule standards edge edge2 delta).answer
    (stem_words ws (stem_hinted ws dim adjust rule standards edge edge2 delta)) (ws, own)
