-- CJK linking (document 01, module 3): the refusal, and the three rounds at the thresholds of the call.
use Rattle.std.specs.Prelude.{◌≡◌, Bool, ◌&&◌, List, [], ◌∷◌, ℕ, ℤ, pos}
use Rattle.refusals.specs.Refusal.{Test, ◌unless◌, refusal, answered, bad_parameter, bad_index}
use Rattle.fixed.specs.Point.{div_fix, derived}
use Rattle.axis.specs.declared.kinds.Direction.{Direction}
use Rattle.axis.specs.declared.segment.Segments.{Segments}
use Rattle.axis.specs.Limits.{least_units_per_em, most_units_per_em, least_scale, most_scale}
use Rattle.axis.specs.Refusals.{inside, segments_nexts, segments_short, segments_indexed, segments_in_range}
use Rattle.link.specs.declared.thresholds.Thresholds.{Thresholds}
use Rattle.link.specs.Rounds.{linked}
use Rattle.link.specs.Answer.{Linked}

-- the thresholds in font units: the derived constant of 8 for the overlap, three pixels at the scale for the distance
unfoldable pub thresholds_of : ℤ → ℤ → Thresholds
thresholds_of upem scale = record { len = derived upem (pos 8); dist = div_fix (pos 192) scale }

-- units per em and scale are within the table
unfoldable pub numbers_hold : ℤ → ℤ → Bool
numbers_hold upem scale = inside (pos least_units_per_em) (pos most_units_per_em) upem && inside (pos least_scale) (pos most_scale) scale

-- the tests of the call in document 01's order: next is tested with link and serif
abbrev pub linking_tests : Segments → ℤ → ℤ → List Test
linking_tests t upem scale =
    segments_short t ∷ bad_parameter unless numbers_hold upem scale ∷ segments_indexed t ∷ bad_index unless segments_nexts t ∷ segments_in_range t ∷ []

-- an answer beside a table
abbrev pub beside : Segments → ℕ → Linked
beside t k = record { answer = k; segments = t }

-- what the call hands back: the three rounds' table beside 0, or the table as it was beside the refusal
unfoldable pub link_segments_cjk : Segments → Direction → ℤ → ℤ → Linked
link_segments_cjk t major upem scale = answered (refusal (linking_tests t upem scale)) (beside t) (beside (linked major (thresholds_of upem scale) t) 0)

-- what the call owes its caller: the answer and the table
abbrev pub LinksSegmentsCjk : Segments → Direction → ℤ → ℤ → Linked → Type 0
LinksSegmentsCjk t major upem scale r = r ≡ link_segments_cjk t major upem scale
