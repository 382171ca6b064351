-- What a call over lent words answers, and what everything lent holds afterwards.
use Rattle.std.specs.Prelude.{None, Some}
use Rattle.std.specs.Prelude.{◌≡◌, Bool, cond, ◌&&◌, List, [], ◌∷◌, ℕ, ◌%◌, min, eqb, leb, length, ℤ, pos, negsuc}
use Rattle.refusals.specs.Refusal.{Test, ◌unless◌, too_long, refusal, answered}
use Rattle.axis.specs.Limits.{most_edges, most_segments}
use Rattle.axis.specs.declared.edge.Axis.{Axis}
use Rattle.axis.specs.declared.kinds.Dimension.TheVariants as Dimensions
use Rattle.axis.specs.declared.kinds.Direction.TheVariants as Directions
use Rattle.axis.specs.Link.{Link}
use Rattle.signed.specs.Equality.{eq_z}
use Rattle.words.specs.Edge.{edge_size, edges_in, flat_axis}
use Rattle.words.specs.Segment.{segment_size, segments_in}
use Rattle.words_shape.specs.declared.field.Range.{Range}
use Rattle.words_shape.specs.Shape.{is_in, choice, edges_shown, segments_shown}

-- ---- the answer, and what is lent
-- the refusal by the tests in front of a call, or, where there is none, the call's own answer
unfoldable pub refused_or : List Test → ℕ → ℕ
refused_or tests answer = answered (refusal tests) (λ (k : ℕ). k) answer

-- what is lent holds the new with answer 0, and otherwise what it held
pub record Lent {A : Type 0} (tests : List Test) (answer : ℕ) (new old : A) (r : ℕ) (now : A) : Type 0 where
  pub number : r ≡ refused_or tests answer
  pub held : now ≡ cond (eqb r 0) new old

-- ---- the tests in front of a call
-- the answer to a length that is not of whole records, and to words that are not those of their fields
abbrev pub not_words : ℕ
not_words = 255

-- in their order: every length is one of whole records, the list is not too long, and every word is one of its field
abbrev pub front : Bool → Bool → Bool → List Test
front whole short shown = not_words unless whole ∷ too_long unless short ∷ not_words unless shown ∷ []

-- of a call over edges, with the test of its other words
unfoldable pub edges_front : List ℤ → Bool → List Test
edges_front ws others = front (eqb (length ws % edge_size) 0) (leb (edges_in ws) most_edges) (edges_shown ws && others)

-- of a call over segments, with the test of its room for edges and that of its other words
unfoldable pub segments_front : List ℤ → Bool → Bool → List Test
segments_front ws room others = front (eqb (length ws % segment_size) 0 && room) (leb (segments_in ws) most_segments) (segments_shown ws && others)

-- two words within one field's values
abbrev pub both_in : Range → ℤ → ℤ → Bool
both_in r a b = is_in r a && is_in r b

-- three choices
abbrev pub choices : ℤ → ℤ → ℤ → Bool
choices a b c = is_in choice a && both_in choice b c

-- ---- words that name an edge
-- the edge that a word names; a word that names none, below zero or too large, reads as the place behind the longest list
unfoldable pub named_edge : ℤ → ℕ
named_edge (pos n) = min n most_edges
named_edge (negsuc n) = most_edges

-- none where the word is -1, and else the edge that it names
unfoldable pub named_anchor : ℤ → Link
named_anchor w = cond (eq_z w (negsuc 0)) None (Some (named_edge w))

-- ---- lent edges
-- their axis, for a call that reads neither its dimension nor its major direction
abbrev pub edges_of : List ℤ → Axis
edges_of ws = flat_axis ws Dimensions.Horizontal Directions.None
