-- Blue zones over lent edges, the dimension, the group and the width rule with its standards; a place is lent for the anchor.
use Rattle.std.specs.Prelude.{List, ℕ, ℤ}
use Rattle.axis.specs.declared.kinds.Direction.TheVariants as Directions
use Rattle.zones.specs.Answer.{Anchored}
use Rattle.zones.specs.Call.{align_edges_to_blues}
use Rattle.words.specs.Field.{dimension_of, group_of, rule_of, link_word}
use Rattle.words.specs.Edge.{flat_axis, edges_over}
use Rattle.words_call.specs.Lent.{Lent, edges_front, choices}

-- what the call hands back; it does not read the major direction of the axis
abbrev pub zones_anchored : List ℤ → ℤ → ℤ → ℤ → List ℤ → Anchored
zones_anchored ws dim group rule standards = align_edges_to_blues (flat_axis ws (dimension_of dim) Directions.None) (group_of group) (rule_of rule) standards

abbrev pub zones_words : List ℤ → Anchored → List ℤ × ℤ
zones_words ws a = (edges_over ws a.axis, link_word a.anchor)

abbrev pub ZonesLent : List ℤ → ℤ → ℤ → ℤ → List ℤ → ℤ → ℕ → List ℤ × ℤ → Type 0
ZonesLent ws dim group rule standards anchor =
    Lent (edges_front ws (choices dim group rule)) (zones_anchored ws dim group rule standards).answer (zones_words ws (zones_anchored ws dim group rule standards)) (ws, anchor)
