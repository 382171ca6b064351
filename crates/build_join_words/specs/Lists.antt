-- The edges of a state of joining as lists of numbers: the first segment of each, its last one and its position, and the next of each segment that has joined one.
use Rattle.std.specs.Prelude.{◌≡◌, Bool, false, cond, List, map, ℕ, zero, suc, ◌<◌, ltb, ℤ, pos, get_or, set}
use Rattle.axis.specs.declared.edge.Edge.{Edge}
use Rattle.axis.specs.declared.segment.Segments.{Segments}
use Rattle.axis.specs.Accepted.{SegmentsWithin}
use Rattle.build_join.specs.declared.rules.Rules.{Rules}
use Rattle.build_join.specs.Joining.{State, head_or, last_in, edge_of, stops_behind, place_of, state_at}
use Rattle.build_join.specs.Walks.{Joinable, Latin}
use Rattle.words.specs.Segment.{segments_in, flat_segments}
use Rattle.build_join_words.specs.Reading.{words_of, edge_in, edge_at_place}

-- ---- states
-- the lists, the count and whether a 129th edge was called for are those of a state; an unused place holds 0
pub record Listed (s : State) (first last next : List ℕ) (full : Bool) (count : ℕ) : Type 0 where
  pub firsts : first ≡ map (head_or 0) s.groups
  pub lasts : last ≡ map last_in s.groups
  pub nexts : next ≡ s.next
  pub fulls : full ≡ s.full
  pub counts : count ≡ s.count

-- the position of a group's edge; the place of no group has 0
abbrev pub place_by : Segments → ℤ → List ℕ → ℤ
place_by t scale g = (edge_of t scale g).fpos

-- with them a list of the edges' positions
pub record Placed (t : Segments) (r : Rules) (s : State) (places : List ℤ) (first last next : List ℕ) (full : Bool) (count : ℕ) : Type 0 where
  pub listed : Listed s first last next full count
  pub positions : places ≡ map (place_by t r.scale) s.groups

-- words whose segments can be joined, and the second loop is Latin's
pub record Ready (ws : List ℤ) (r : Rules) (second : Bool) : Type 0 where
  pub within : SegmentsWithin (flat_segments ws)
  pub joinable : Joinable (flat_segments ws) r
  pub latin : Latin r second

-- the lists are those of the state before segment i, which has room
pub record Before (ws : List ℤ) (r : Rules) (second : Bool) (i : ℕ) (places : List ℤ) (first last next : List ℕ) (count : ℕ) : Type 0 where
  pub ready : Ready ws r second
  pub inside : i < segments_in ws
  pub placed : Placed (flat_segments ws) r (state_at (flat_segments ws) r second i) places first last next false count

-- where segment i goes
abbrev pub place_in : List ℤ → Rules → Bool → ℕ → ℕ
place_in ws r second i = place_of (flat_segments ws) r second (state_at (flat_segments ws) r second i) i

-- ---- adding an edge
-- an edge that is added stops behind one at this position
abbrev pub stops_at : Rules → Edge → ℤ → Bool
stops_at r e place = stops_behind r e (edge_at_place place)

-- where what is added to the first i of a list settles: walking back from there, behind the first that stops it
unfoldable pub stop_at : {A : Type 0} → (A → Bool) → A → List A → ℕ → ℕ
stop_at stops d xs zero = 0
stop_at stops d xs (suc i) = cond (stops (get_or xs i d)) (suc i) (stop_at stops d xs i)

-- x is put in a place of the first i of a list with room for it: those from there on move up by one
unfoldable pub insert_at : {A : Type 0} → A → A → List A → ℕ → ℕ → List A
insert_at d x xs at zero = set xs 0 x
insert_at d x xs at (suc i) = cond (ltb at (suc i)) (insert_at d x (set xs (suc i) (get_or xs i d)) at i) (set xs (suc i) x)

-- so it is for the lists, with the edge of segment i alone
pub record Inserted (at count : ℕ) (place : ℤ) (i : ℕ) (places : List ℤ) (first last : List ℕ) (places' : List ℤ) (first' last' : List ℕ) : Type 0 where
  pub positions : places' ≡ insert_at (pos 0) place places at count
  pub firsts : first' ≡ insert_at 0 i first at count
  pub lasts : last' ≡ insert_at 0 i last at count

-- segment i makes an edge, in the place where that settles, and is its own next
pub record Made (ws : List ℤ) (r : Rules) (i count : ℕ) (places : List ℤ) (first last next : List ℕ) (places' : List ℤ) (first' last' next' : List ℕ) : Type 0 where
  pub inserted : Inserted (stop_at (stops_at r (edge_in ws i i)) (pos 0) places count) count (words_of ws i).pos i places first last places' first' last'
  pub nexts : next' ≡ set next i i
