-- Words, records and tables that are altered and listed where their words stand.
use Rattle.std.specs.Prelude.{Some}
use Rattle.std.specs.Prelude.{◌≡◌, Bool, cond, List, [], ◌∷◌, ◌++◌, ℕ, ◌+◌, ◌*◌, ◌≤◌, ltb, set, ℤ, pos, negsuc}
use Rattle.signed.specs.Equality.{eq_z}
use Rattle.signed.specs.Parts.{up}
use Rattle.axis.specs.declared.edge.Axis.{Axis}
use Rattle.axis.specs.declared.edge.Edge.{Edge}
use Rattle.axis.specs.declared.segment.Segments.{Segments}
use Rattle.axis.specs.Edge.{edge_at, put_edge}
use Rattle.axis.specs.Limits.{most_edges}
use Rattle.axis.specs.Segment.{segment_at, put_segment}
use Rattle.mend.specs.Altered.{Table, Field, Alteration, table_number, field_number, of_segment, of_edge, most_altered}
use Rattle.mend.specs.Altered as L
use Rattle.mend.specs.Mended.{kept, edge_with}
use Rattle.mend.specs.Plan.{planned_segment, planned_edge, planned_segments, planned_axis, segments_listed, edges_listed}
use Rattle.words.specs.Word.{word_at, written}
use Rattle.words.specs.Edge.{edges_in}
use Rattle.words.specs.Segment.{segments_in, flat_segments}
use Rattle.words_call.specs.Lent.{edges_of}
use Rattle.words_edge.specs.Whole as Edges
use Rattle.words_segment.specs.Whole as Segments
use Rattle.mend_amend_words.specs.declared.amend.Named.{Named}
use Rattle.mend_amend_words.specs.Listing.{alteration_size, Listed}

-- ---- values of fields as words
-- none for an index beyond a list of n
abbrev pub kept_word : ℕ → ℤ → ℤ
kept_word n w = cond (ltb (up w) n) w (negsuc 0)

-- the next of a segment, by the numbers of its edge and of what it is led to
abbrev pub next_word : ℕ → ℕ → ℕ → ℤ → ℤ
next_word n edge led w = cond (ltb edge most_edges) (pos led) (kept_word n w)

-- ---- one word
-- what an alteration is of
abbrev pub named_of : Table → ℕ → Field → Named
named_of x i f = record { table = table_number x; index = i; field = field_number f }

-- the word is set, and listed where it differs from what stood there
pub record AmendedWord (named : Named) (at : ℕ) (new : ℤ) (count : ℕ) (ws room : List ℤ) (r : ℕ) (ws' room' : List ℤ) : Type 0 where
  pub word : ws' ≡ set ws at new
  pub counted : r ≡ cond (eq_z (word_at ws at) new) count (count + 1)
  pub few : r ≤ count + 1
  pub written_in :
      room' ≡ cond (eq_z (word_at ws at) new) room (written room (alteration_size * count) (pos named.table ∷ pos named.index ∷ pos named.field ∷ word_at ws at ∷ new ∷ []))

-- ---- one record
-- the fields of an edge that are altered together, and what is listed of them
abbrev pub links_kept : ℕ → Edge → Edge
links_kept m e = edge_with e (kept m e.link) (kept m e.serif) e.first e.last

abbrev pub ended : Bool → ℕ → ℕ → Edge → Edge
ended broken first last e = edge_with e e.link e.serif (cond broken first e.first) (cond broken last e.last)

abbrev pub links_listed : ℕ → Edge → Edge → List Alteration
links_listed k a b = L.listed L.edges k L.link a.link b.link ++ L.listed L.edges k L.serif a.serif b.serif

abbrev pub ends_listed : ℕ → Edge → Edge → List Alteration
ends_listed k a b = L.listed L.edges k L.first (Some a.first) (Some b.first) ++ L.listed L.edges k L.last (Some a.last) (Some b.last)

-- segment i by its edge and what it is led to
pub record AmendedSegment (i edge led count : ℕ) (ws room : List ℤ) (r : ℕ) (ws' room' : List ℤ) : Type 0 where
  pub became : Segments.Became (λ (t : Segments). put_segment t i (planned_segment (segments_in ws) edge led (segment_at t i))) ws ws'
  pub listed : Listed (of_segment i (segment_at (flat_segments ws) i) (planned_segment (segments_in ws) edge led (segment_at (flat_segments ws) i))) count room r room'

-- of edge k link and serif; first and last, by whether its ring is broken; and all four
pub record AmendedLinks (k count : ℕ) (es room : List ℤ) (r : ℕ) (es' room' : List ℤ) : Type 0 where
  pub became : Edges.Became (λ (axis : Axis). put_edge axis k (links_kept (edges_in es) (edge_at axis k))) es es'
  pub listed : Listed (links_listed k (edge_at (edges_of es) k) (links_kept (edges_in es) (edge_at (edges_of es) k))) count room r room'
  pub few : r ≤ count + 2

pub record AmendedEnds (k : ℕ) (broken : Bool) (first last count : ℕ) (es room : List ℤ) (r : ℕ) (es' room' : List ℤ) : Type 0 where
  pub became : Edges.Became (λ (axis : Axis). put_edge axis k (ended broken first last (edge_at axis k))) es es'
  pub listed : Listed (ends_listed k (edge_at (edges_of es) k) (ended broken first last (edge_at (edges_of es) k))) count room r room'

pub record AmendedEdge (k : ℕ) (broken : Bool) (first last count : ℕ) (es room : List ℤ) (r : ℕ) (es' room' : List ℤ) : Type 0 where
  pub became : Edges.Became (λ (axis : Axis). put_edge axis k (planned_edge (edges_in es) broken first last (edge_at axis k))) es es'
  pub listed : Listed (of_edge k (edge_at (edges_of es) k) (planned_edge (edges_in es) broken first last (edge_at (edges_of es) k))) count room r room'

-- ---- a table
pub record AmendedSegments (edges next : List ℕ) (ws room : List ℤ) (r : ℕ) (ws' room' : List ℤ) : Type 0 where
  pub became : Segments.Became (planned_segments edges next) ws ws'
  pub listed : Listed (segments_listed edges next (flat_segments ws) (segments_in ws)) 0 room r room'
  pub few : r + 4 * most_edges ≤ most_altered

pub record AmendedEdges (broken : List Bool) (firsts lasts : List ℕ) (count : ℕ) (es room : List ℤ) (r : ℕ) (es' room' : List ℤ) : Type 0 where
  pub became : Edges.Became (planned_axis broken firsts lasts) es es'
  pub listed : Listed (edges_listed broken firsts lasts (edges_of es) (edges_in es)) count room r room'
