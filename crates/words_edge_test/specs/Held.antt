-- Words that are those of edges, and that every call accepts.
use Rattle.std.specs.Prelude.{◌≡◌, Bool, true, cond, ◌&&◌, List, ℕ, ◌+◌, ℤ, pos, ◌-ℤ◌}
use Rattle.signed.specs.Equality.{eq_z}
use Rattle.axis.specs.declared.edge.Axis.{Axis}
use Rattle.axis.specs.Limits.{most_units, most_pos}
use Rattle.axis.specs.Refusals.{within, edges_indices, edges_numbers}
use Rattle.words.specs.Word.{word_at}
use Rattle.words.specs.Field.{choice_of}
use Rattle.words.specs.Edge.{fpos_place, opos_place, pos_place, flags_place, dir_place, blue_place, fitted_place, link_place, serif_place, first_place, last_place, mark_place}
use Rattle.words.specs.Record.{edge_layout}
use Rattle.words_shape.specs.declared.field.Range.{Range}
use Rattle.words_shape.specs.declared.element.Record.TheVariants as Records
use Rattle.words_shape.specs.Shape as Shape
use Rattle.words_call.specs.Lent.{edges_of}
use Rattle.words_call.specs.Held.{HeldOf, tested_of}

-- ---- the words
-- a zone that is there is within the table, and behind an absent one stands 0
abbrev pub zone_test : ℤ → ℤ → Bool
zone_test p v = cond (choice_of p) (within most_units v) (eq_z v (pos 0))

-- the values of a link to one of n, or to none
abbrev pub links_to : ℕ → Range
links_to n = Shape.range (Shape.link).low (pos n -ℤ pos 1)

-- a word that is one of its field's values
abbrev pub field_test : List ℤ → ℕ → ℕ → Bool
field_test = Shape.field_in Records.Edge

-- the tests of the words of one edge, whose link and serif have these values
pub record FrontHeld (ws : List ℤ) (at : ℕ) : Type 0 where
  pub w0 : field_test ws at fpos_place ≡ true
  pub w1 : within most_units (word_at ws (at + opos_place)) ≡ true
  pub w2 : within most_pos (word_at ws (at + pos_place)) ≡ true
  pub w3 : field_test ws at flags_place ≡ true

pub record BackHeld (ws : List ℤ) (at : ℕ) (links : Range) : Type 0 where
  pub w4 : field_test ws at dir_place ≡ true
  pub w5 : field_test ws at blue_place ≡ true
  pub w6 : zone_test (word_at ws (at + blue_place)) (word_at ws (at + fitted_place)) ≡ true
  pub w7 : Shape.is_in links (word_at ws (at + link_place)) ≡ true
  pub w8 : Shape.is_in links (word_at ws (at + serif_place)) ≡ true
  pub w9 : field_test ws at first_place ≡ true
  pub w10 : field_test ws at last_place ≡ true
  pub w11 : field_test ws at mark_place ≡ true

-- the words are those of edges, and no edge is refused
abbrev pub Held : List ℤ → Type 0
Held ws = HeldOf edge_layout ws (Shape.edges_shown ws) (edges_indices (edges_of ws)) (edges_numbers (edges_of ws))

-- ---- the answer
-- the refusal of edges that are not too many, by a call's parameters, by indices, those of the edges that it names too, and by numbers, those that it passes too
abbrev pub tested : Axis → ℕ → Bool → Bool → ℕ
tested axis own named passed = tested_of own (edges_indices axis && named) (edges_numbers axis && passed)
