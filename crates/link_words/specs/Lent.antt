-- CJK linking over lent segments, the major direction, units per em and the scale.
use Rattle.std.specs.Prelude.{true, List, ℕ, ℤ}
use Rattle.link.specs.Answer.{Linked}
use Rattle.link.specs.Linking.{link_segments_cjk}
use Rattle.words.specs.Field.{direction_of}
use Rattle.words.specs.Segment.{flat_segments, segments_over}
use Rattle.words_shape.specs.Shape.{is_in, direction}
use Rattle.words_call.specs.Lent.{Lent, segments_front}

-- what the call hands back
abbrev pub linking_linked : List ℤ → ℤ → ℤ → ℤ → Linked
linking_linked ws major upem scale = link_segments_cjk (flat_segments ws) (direction_of major) upem scale

abbrev pub LinkingLent : List ℤ → ℤ → ℤ → ℤ → ℕ → List ℤ → Type 0
LinkingLent ws major upem scale =
    Lent (segments_front ws true (is_in direction major)) (linking_linked ws major upem scale).answer (segments_over ws (linking_linked ws major upem scale).segments) ws
