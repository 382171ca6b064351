-- Words of a lent list that a call leaves as they were.
use Rattle.std.specs.Prelude.{◌≡◌, Bool, false, ◌||◌, List, [], ◌∷◌, ℕ, ◌/◌, ◌%◌, eqb, length, ℤ}
use Rattle.axis.specs.Changes.{Extent, nothing, position, place, zone}
use Rattle.words.specs.Word.{word_at}
use Rattle.words.specs.Edge.{edge_size, pos_place, flags_place, blue_place, fitted_place, mark_place, word_of_edge}
use Rattle.words.specs.Segment.{segment_size}

-- as many words, and each as it was, but those that a test of their places names
pub record KeptBut (named : ℕ → Bool) (before now : List ℤ) : Type 0 where
  pub size : length now ≡ length before
  pub word : (k : ℕ) → named k ≡ false → word_at now k ≡ word_at before k

-- the words of a list of edges that are named by edge and place of the field
abbrev pub of_edges : (ℕ → ℕ → Bool) → ℕ → Bool
of_edges named k = named (k / edge_size) (k % edge_size)

-- those of a list of segments
abbrev pub of_segments : (ℕ → ℕ → Bool) → ℕ → Bool
of_segments named k = named (k / segment_size) (k % segment_size)

-- one of these places
abbrev pub is_one_of : List ℕ → ℕ → Bool
is_one_of [] j = false
is_one_of (p ∷ ps) j = eqb j p || is_one_of ps j

-- the words of an edge that its position is written as, with what gave it; those with its flags; and those with its zone
abbrev pub position_words : List ℕ
position_words = pos_place ∷ mark_place ∷ []

abbrev pub place_words : List ℕ
place_words = pos_place ∷ flags_place ∷ mark_place ∷ []

abbrev pub zone_words : List ℕ
zone_words = pos_place ∷ flags_place ∷ blue_place ∷ fitted_place ∷ mark_place ∷ []

-- those that so much of it is written as
abbrev pub words_of : Extent → List ℕ
words_of nothing = []
words_of (position marks) = position_words
words_of (place marks) = place_words
words_of (zone marks) = zone_words

-- of the edge in each place so much
abbrev pub in_extent : (ℕ → Extent) → ℕ → ℕ → Bool
in_extent extent i = is_one_of (words_of (extent i))

-- a word that is neither the position of an edge nor its mark
abbrev pub Beside : ℕ → ℕ → Type 0
Beside i k = (k ≡ word_of_edge i pos_place → ⊥) × (k ≡ word_of_edge i mark_place → ⊥)
