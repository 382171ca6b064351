-- Edge points (beyond document 01; the Rust's `align_edge_points`): the points of a segment go where its edge went, and are touched. An outline is its points' currents c,
-- touch marks t and the ends es of its contours.
use Rattle.std.specs.Prelude.{None, Some}
use Rattle.std.specs.Prelude.{◌≡◌, Bool, true, false, not, cond, ◌&&◌, ◌||◌, List, [], ◌∷◌, ◌++◌, ℕ, zero, suc, leb, ltb, eqb, length, set, ℤ, ◌+ℤ◌, ◌-ℤ◌}
use Rattle.std.proofs.Math.Option.{Option, some, none}
use Rattle.refusals.specs.Refusal.{Test, ◌unless◌, refusal, answered, too_long, bad_index, out_of_range}
use Rattle.axis.specs.declared.edge.Edge.{Edge}
use Rattle.axis.specs.declared.edge.Axis.{Axis}
use Rattle.axis.specs.Link.{Link}
use Rattle.axis.specs.declared.segment.Segment.{Segment}
use Rattle.axis.specs.declared.segment.Segments.{Segments}
use Rattle.axis.specs.Edge.{edge_at}
use Rattle.axis.specs.Segment.{segment_at}
use Rattle.axis.specs.Ring.{walk}
use Rattle.axis.specs.Visits.{visits}
use Rattle.axis.specs.Refusals.{within, every_segment, segments_in_range, edges_in_range}
use Rattle.weak_contour.specs.Limits.{most_points, most_coordinate}
use Rattle.weak_contour.specs.Contour.{at, Contour}
use Rattle.weak.specs.Weak.{ends_hold, coordinates_hold, contour_of}
use Rattle.turn.specs.Indices.{index_tests}

-- ---- the walk around a contour
-- the point behind the point p around the contour k: behind the contour's last comes its first
unfoldable pub behind : Contour → ℕ → ℕ
behind k p = cond (eqb (suc p) k.end) k.start (suc p)

-- the points from the first to the last, each next one around the contour; no contour has more than 4,096
abbrev pub walked : Contour → ℕ → ℕ → List ℕ
walked k first last = walk (behind k) last most_points first

-- ---- one point
-- the currents and touch marks of an outline
pub record Points : Type 0 where
  pub currents : List ℤ
  pub touched : List ℕ

-- where the current z comes to by the edge e: with snap to the edge's position, without by as much as the edge was moved
unfoldable pub moved_by : Bool → Edge → ℤ → ℤ
moved_by snap e z = cond snap e.pos (z +ℤ (e.pos -ℤ e.opos))

-- the point p moved by the edge e, and touched
abbrev pub move_point : Bool → Edge → ℕ → Points → Points
move_point snap e p s = record { currents = set s.currents p (moved_by snap e (at s.currents p)); touched = set s.touched p 1 }

-- points moved by the edge e, one after the other
unfoldable pub move_points : Bool → Edge → List ℕ → Points → Points
move_points snap e [] s = s
move_points snap e (p ∷ ps) s = move_points snap e ps (move_point snap e p s)

-- ---- one segment
-- an edge moves points where any does, or where it is done
abbrev pub moves : Bool → Edge → Bool
moves alone e = not alone || e.flags.done

-- the points of a segment on a contour moved by its edge e, where that moves points; on no contour there is nothing to walk
unfoldable pub move_segment : Bool → Bool → Segment → Edge → Option Contour → Points → Points
move_segment snap alone g e none s = s
move_segment snap alone g e (some k) s = cond (moves alone e) (move_points snap e (walked k g.first g.last) s) s

-- a segment by its edge in the axis, where it has one
unfoldable pub along_edge : Bool → Bool → Axis → List ℕ → Segment → Link → Points → Points
along_edge snap alone axis es g None s = s
along_edge snap alone axis es g (Some k) s = move_segment snap alone g (edge_at axis k) (contour_of 0 es g.first) s

-- segment i of the table
unfoldable pub visit_segment : Bool → Bool → Axis → Segments → List ℕ → Points → ℕ → Points
visit_segment snap alone axis t es s i = along_edge snap alone axis es (segment_at t i) (segment_at t i).edge s

-- every segment, in the order of the table
abbrev pub move_all : Bool → Bool → Axis → Segments → List ℕ → Points → Points
move_all snap alone axis t es s = visits (visit_segment snap alone axis t es) t.len 0 s

-- ---- the refusals
-- the point q is on the contour k, which is one
unfoldable pub is_on : Option Contour → ℕ → Bool
is_on none q = false
is_on (some k) q = leb k.start q && ltb q k.end

-- first and last of a segment are on one contour: so they are points, and the walk from one comes to the other
unfoldable pub on_one : List ℕ → Segment → Bool
on_one es g = is_on (contour_of 0 es g.first) g.last

-- so it is of a segment with an edge; where there is none, there is nothing to test
unfoldable pub segment_points : List ℕ → Segment → Link → Bool
segment_points es g None = true
segment_points es g (Some k) = on_one es g

-- so it is of every segment
unfoldable pub segments_points : List ℕ → Segments → Bool
segments_points es t = every_segment (λ (g : Segment). segment_points es g g.edge) t

-- the position of the edge that a link names, where there is one and it moves points, is a coordinate
unfoldable pub mover_holds : Bool → Axis → Link → Bool
mover_holds alone axis None = true
mover_holds alone axis (Some k) = not (moves alone (edge_at axis k)) || within most_coordinate (edge_at axis k).pos

-- so it is of the edge of every segment
unfoldable pub movers_hold : Bool → Axis → Segments → Bool
movers_hold alone axis t = every_segment (λ (g : Segment). mover_holds alone axis g.edge) t

-- the tests of the call in document 01's order: lengths; both tables as turning over tests them; contour ends, and the points of segments with an edge; numbers
abbrev pub points_tests : Bool → Axis → Segments → Points → List ℕ → List Test
points_tests alone axis t s es =
    too_long unless leb (length s.currents) most_points
    ∷ too_long unless eqb (length s.touched) (length s.currents)
    ∷ (index_tests axis t
    ++ (bad_index unless ends_hold 0 (length s.currents) es
    ∷ bad_index unless segments_points es t
    ∷ segments_in_range t
    ∷ edges_in_range axis
    ∷ out_of_range unless coordinates_hold most_coordinate s.currents
    ∷ out_of_range unless movers_hold alone axis t
    ∷ []))

-- ---- the call
-- what the call answers, and the points that it leaves: a refusal moves none
unfoldable pub edge_answer : Bool → Axis → Segments → Points → List ℕ → ℕ
edge_answer alone axis t s es = refusal (points_tests alone axis t s es)

unfoldable pub edge_result : Bool → Bool → Axis → Segments → Points → List ℕ → Points
edge_result snap alone axis t s es = answered (edge_answer alone axis t s es) (λ _. s) (move_all snap alone axis t es s)
