-- Segments join edges (document 01, module 4; the loops of the Rust's `compute_edges`). An edge is the list of its segments in the order in which they joined
-- it: the first gives its position and its direction, and the ring is the list closed.
use Rattle.std.specs.Prelude.{None, Some}
use Rattle.std.specs.Prelude.{Bool, true, false, cond, not, ◌&&◌, ◌||◌, List, [], ◌∷◌, ◌++◌, map, ℕ, zero, suc, ◌+◌, ltb, ℤ, pos, ◌*ℤ◌, get_or, set, replicate}
use Rattle.std.specs.Int.Signed.{lt_z}
use Rattle.signed.specs.Distance.{distance}
use Rattle.fixed.specs.Point.{mul_fix}
use Rattle.axis.specs.declared.edge.Edge.{Edge}
use Rattle.axis.specs.declared.kinds.Dimension.{Dimension}
use Rattle.axis.specs.declared.kinds.Direction.{Direction}
use Rattle.axis.specs.declared.kinds.Direction.TheVariants as Directions
use Rattle.axis.specs.Link.{Link}
use Rattle.axis.specs.declared.segment.Segment.{Segment}
use Rattle.axis.specs.declared.segment.Segments.{Segments}
use Rattle.axis.specs.Direction.{same}
use Rattle.axis.specs.Edge.{fresh_edge, empty_edge, empty_axis, with_last}
use Rattle.axis.specs.Limits.{most_edges, most_segments}
use Rattle.axis.specs.Link.{is_linked}
use Rattle.axis.specs.Segment.{segment_at}
use Rattle.build_join.specs.declared.join.Joined.{Joined}
use Rattle.build_join.specs.declared.rules.Rules.{Rules}

-- ---- one segment
-- Latin passes a segment over: too short, too wide, without direction, or a serif shorter than one and a half times the length threshold
unfoldable pub passed_over : Rules → Segment → Bool
passed_over r s =
    lt_z s.height r.length
    || (lt_z r.width s.delta
    || (same s.dir Directions.None
    || (is_linked s.serif && lt_z (s.height *ℤ pos 2) (r.length *ℤ pos 3))))

-- a loop leaves a segment out: the first one those that Latin passes over, the second one all with a direction
unfoldable pub skips : Rules → Bool → Segment → Bool
skips r false s = not r.cjk && passed_over r s
skips r true s = not (same s.dir Directions.None)

-- ---- a segment and an edge
-- nearer than the limit, and in its direction
unfoldable pub fits : ℕ → Segment → Edge → Bool
fits limit s e = ltb (distance s.pos e.fpos) limit && same e.dir s.dir

-- the same in the second loop, which asks for no direction
unfoldable pub fits_in : Bool → ℕ → Segment → Edge → Bool
fits_in false limit s e = fits limit s e
fits_in true limit s e = ltb (distance s.pos e.fpos) limit

-- the edge of segment i alone
abbrev pub new_edge : Segment → ℤ → ℕ → Edge
new_edge s scale i = fresh_edge s.pos (mul_fix s.pos scale) s.dir i

-- ---- the links of two segments
-- where both have one, their positions are nearer than a limit
unfoldable pub links_near : Segments → ℕ → Link → Link → Bool
links_near t near None l = true
links_near t near (Some a) None = true
links_near t near (Some a) (Some b) = ltb (distance (segment_at t a).pos (segment_at t b).pos) near

-- so it is for a link and every one of these segments
unfoldable pub agrees : Segments → ℕ → Link → List ℕ → Bool
agrees t near l [] = true
agrees t near l (m ∷ ms) = links_near t near l (segment_at t m).link && agrees t near l ms

-- ---- adding an edge
-- an edge that is added stops behind another: where that is before it, or equal while the new one has the major direction
unfoldable pub stops_behind : Rules → Edge → Edge → Bool
stops_behind r e prev = cond (lt_z prev.fpos e.fpos) true (cond (lt_z e.fpos prev.fpos) false (same e.dir r.major_dir))

-- x is added to the first i places of a list with room for it: walking back from there, what does not stop it moves up by one
unfoldable pub settle : {A : Type 0} → (A → Bool) → A → A → List A → ℕ → List A
settle stops d x xs zero = set xs 0 x
settle stops d x xs (suc i) = cond (stops (get_or xs i d)) (set xs (suc i) x) (settle stops d x (set xs (suc i) (get_or xs i d)) i)

-- ---- groups of segments
-- the first of a group, or f
abbrev pub head_or : ℕ → List ℕ → ℕ
head_or f [] = f
head_or f (m ∷ ms) = m

-- the last of m and ms
abbrev pub last_of : ℕ → List ℕ → ℕ
last_of m [] = m
last_of m (x ∷ ms) = last_of x ms

-- the last of a group
abbrev pub last_in : List ℕ → ℕ
last_in [] = 0
last_in (m ∷ ms) = last_of m ms

-- the edge of a group; the place of no group is empty
abbrev pub edge_of : Segments → ℤ → List ℕ → Edge
edge_of t scale [] = empty_edge
edge_of t scale (m ∷ ms) = with_last (new_edge (segment_at t m) scale m) (last_of m ms)

-- appending a segment to an edge: its next becomes the edge's first segment, the old last's next becomes it
abbrev pub appended : List ℕ → ℕ → ℕ → ℕ → List ℕ
appended next first last i = set (set next i first) last i

-- the edges so far, as groups in 128 places of which the first `count` are used; each joined segment's next; whether a 129th edge was called for
pub record State : Type 0 where
  pub groups : List (List ℕ)
  pub count : ℕ
  pub next : List ℕ
  pub full : Bool

abbrev pub group : State → ℕ → List ℕ
group s k = get_or s.groups k []

-- no edge yet
unfoldable pub start : State
start = record { groups = replicate most_edges []; count = 0; next = replicate most_segments 0; full = false }

-- segment i joins edge k
abbrev pub join : State → ℕ → ℕ → State
join s k i = record { groups = set s.groups k (group s k ++ i ∷ []); count = s.count; next = appended s.next (head_or 0 (group s k)) (last_in (group s k)) i; full = s.full }

-- the same edges, and one more called for
abbrev pub overfull : State → State
overfull s = record { groups = s.groups; count = s.count; next = s.next; full = true }

-- the tables of no edge
abbrev pub unjoined : Dimension → Direction → Joined
unjoined dim major = record { full = false; axis = empty_axis dim major; next = replicate most_segments 0 }

-- the tables that a state stands for
unfoldable pub shown : Segments → Rules → State → Joined
shown t r s = record {
  full = s.full;
  axis = record { dim = r.dim; major_dir = r.major_dir; edges = map (edge_of t r.scale) s.groups; len = s.count };
  next = s.next;
}

-- ---- the search
-- of n numbers from k on: each that is better than the limit is the best so far and sets the limit for those behind it
unfoldable pub seek : (ℕ → ℕ → Bool) → (ℕ → ℕ) → ℕ → ℕ → ℕ → ℕ → ℕ
seek better behind zero k best limit = best
seek better behind (suc n) k best limit = cond (better k limit) (seek better behind n (k + 1) k (behind k)) (seek better behind n (k + 1) best limit)

-- what an edge must be nearer than to be taken in the place of one at this distance: CJK takes the nearest, Latin stays with the first
abbrev pub limit_behind : Bool → ℕ → ℕ
limit_behind true dist = dist
limit_behind false dist = 0

module _ (t : Segments) (r : Rules) (second : Bool) where
  -- segment i may join edge k, nearer than the limit; in CJK only where all linked segments of the edge agree with its link
  unfoldable pub may_join : State → ℕ → ℕ → ℕ → Bool
  may_join s i k limit = fits_in second limit (segment_at t i) (edge_of t r.scale (group s k)) && (not r.cjk || agrees t r.near (segment_at t i).link (group s k))

  -- the limit behind edge k
  unfoldable pub behind : State → ℕ → ℕ → ℕ
  behind s i k = limit_behind r.cjk (distance (segment_at t i).pos (edge_of t r.scale (group s k)).fpos)

  -- the edge that segment i joins, or the number of edges
  unfoldable pub place_of : State → ℕ → ℕ
  place_of s i = seek (may_join s i) (behind s i) s.count 0 s.count r.near

  -- segment i makes an edge, if there is room
  unfoldable pub create : State → ℕ → State
  create s i =
      cond (ltb s.count most_edges)
      (record {
        groups = settle (λ (g : List ℕ). stops_behind r (edge_of t r.scale (i ∷ [])) (edge_of t r.scale g)) [] (i ∷ []) s.groups s.count;
        count = s.count + 1;
        next = set s.next i i;
        full = s.full;
      })
      (overfull s)

  -- segment i joins the edge in this place, or makes one where there is none; the second loop makes none
  unfoldable pub join_or_create : State → ℕ → ℕ → State
  join_or_create s i k = cond (ltb k s.count) (join s k i) (cond second s (create s i))

  -- the visit of segment i; nothing changes after a 129th edge was called for
  unfoldable pub visit : State → ℕ → State
  visit s i = cond s.full s (cond (skips r second (segment_at t i)) s (join_or_create s i (place_of s i)))

  -- the first i visits from s on
  unfoldable pub after : State → ℕ → State
  after s zero = s
  after s (suc i) = visit (after s i) i

-- where a loop starts: the second one where the first ends
unfoldable pub begun : Segments → Rules → Bool → State
begun t r false = start
begun t r true = after t r false start t.len

-- the state before segment i of a loop
abbrev pub state_at : Segments → Rules → Bool → ℕ → State
state_at t r second i = after t r second (begun t r second) i

-- the state behind the last loop: CJK has one, Latin two
abbrev pub last_state : Segments → Rules → State
last_state t r = state_at t r (not r.cjk) t.len
