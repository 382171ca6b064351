-- Which words are those of fields, records and runs of records. A reading starts at a place of the list and ends at the place behind what it read, or nowhere.
use Rattle.std.specs.Prelude.{Bool, false, cond, ◌&&◌, ◌||◌, List, [], ◌∷◌, ℕ, zero, suc, ◌+◌, ltb, eqb, length, get_or, ℤ, pos, negsuc, None, Some}
use Rattle.std.specs.Int.Signed.{le_z}
use Rattle.signed.specs.Equality.{eq_z}
use Rattle.words.specs.Word.{word_at}
use Rattle.words.specs.Edge.{blue_place, fitted_place, edges_in}
use Rattle.words.specs.Segment.{segments_in}
use Rattle.words_shape.specs.Place.{Place}
use Rattle.words_shape.specs.declared.field.Range.{Range}
use Rattle.words_shape.specs.declared.element.Record.{Record}
use Rattle.words_shape.specs.declared.element.Record.TheVariants as Records
use Rattle.words_shape.specs.declared.element.Element.{Element}
use Rattle.words_shape.specs.declared.element.Element.TheVariants.{Number, Segment, Edge}

-- ---- readings in a row
-- nowhere stays nowhere; from a place the next reading goes on
unfoldable pub and_then : Place → (ℕ → Place) → Place
and_then None next = None
and_then (Some n) next = next n

-- a place that is there, and where
abbrev pub is_at : ℕ → Place → Bool
is_at n None = false
is_at n (Some m) = eqb m n

-- ---- fields of one word
-- a word within a field's values
abbrev pub is_in : Range → ℤ → Bool
is_in r w = le_z r.low w && le_z w r.high

-- the place behind a word that is there and within its field's values
unfoldable pub field : Range → List ℤ → ℕ → Place
field r ws at = cond (ltb at (length ws) && is_in r (get_or ws at (pos 0))) (Some (at + 1)) None

-- the place behind one field after the other
unfoldable pub fields : List Range → List ℤ → ℕ → Place
fields [] ws at = Some at
fields (r ∷ rs) ws at = and_then (field r ws at) (fields rs ws)

-- ---- the values of the fields
abbrev pub range : ℤ → ℤ → Range
range a b = record { low = a; high = b }

-- any 32-bit word
abbrev pub word : Range
word = range (negsuc 2147483647) (pos 2147483647)

-- a 16-bit number
abbrev pub short : Range
short = range (negsuc 32767) (pos 32767)

-- a touch mark
abbrev pub byte : Range
byte = range (pos 0) (pos 255)

-- an index
abbrev pub index : Range
index = range (pos 0) (pos 65535)

-- an index or none
abbrev pub link : Range
link = range (negsuc 0) (pos 65535)

-- a choice of two
abbrev pub choice : Range
choice = range (pos 0) (pos 1)

abbrev pub direction : Range
direction = range (pos 0) (pos 4)

abbrev pub flags : Range
flags = range (pos 0) (pos 15)

-- what gave an edge its position
abbrev pub mark : Range
mark = range (pos 0) (pos 12)

-- what stands past a record's end
abbrev pub no_range : Range
no_range = range (pos 0) (pos 0)

-- ---- records
-- flags, direction, pos, delta, min_coord, max_coord, height, score, len, link, serif, first, last, edge, next
-- fpos, opos, pos, flags, direction, blue present, blue fitted, link, serif, first, last, mark
abbrev pub ranges_of : Record → List Range
ranges_of Records.Segment = flags ∷ direction ∷ short ∷ short ∷ short ∷ short ∷ short ∷ word ∷ word ∷ link ∷ link ∷ index ∷ index ∷ link ∷ link ∷ []
ranges_of Records.Edge = short ∷ word ∷ word ∷ flags ∷ direction ∷ choice ∷ word ∷ link ∷ link ∷ index ∷ index ∷ mark ∷ []

-- the word of a record in a place is one of its field's values
abbrev pub field_in : Record → List ℤ → ℕ → ℕ → Bool
field_in kind ws at place = is_in (get_or (ranges_of kind) place no_range) (word_at ws (at + place))

-- an edge whose blue is absent has fitted 0
unfoldable pub blue_shown : List ℤ → ℕ → Bool
blue_shown ws at = eq_z (word_at ws (at + blue_place)) (pos 1) || eq_z (word_at ws (at + fitted_place)) (pos 0)

-- the place behind an edge
unfoldable pub edge : List ℤ → ℕ → Place
edge ws at = and_then (fields (ranges_of Records.Edge) ws at) (λ next. cond (blue_shown ws at) (Some next) None)

-- ---- runs of elements
-- the place behind an element
unfoldable pub element : Element → List ℤ → ℕ → Place
element (Number r) ws at = field r ws at
element Segment ws at = fields (ranges_of Records.Segment) ws at
element Edge ws at = edge ws at

-- the place behind n elements
unfoldable pub elements : ℕ → Element → List ℤ → ℕ → Place
elements zero e ws at = Some at
elements (suc n) e ws at = and_then (element e ws at) (elements n e ws)

-- ---- lists without a count
-- n elements and no more
unfoldable pub is_run : ℕ → Element → List ℤ → Bool
is_run n e ws = is_at (length ws) (elements n e ws 0)

-- edges
unfoldable pub edges_shown : List ℤ → Bool
edges_shown ws = is_run (edges_in ws) Edge ws

-- segments
unfoldable pub segments_shown : List ℤ → Bool
segments_shown ws = is_run (segments_in ws) Segment ws
