-- The stem pass in place: its stores as what they make of an axis, its visits and the pass by the definition of `stems_table`.
use Rattle.std.specs.Prelude.{◌≡◌, Bool, cond, ◌&&◌, List, ℕ, ◌+◌, ◌-◌, ◌≤◌, ◌<◌, ℤ}
use Rattle.signed.specs.Range.{Between}
use Rattle.axis.specs.declared.kinds.Dimension.{Dimension}
use Rattle.axis.specs.Link.{Link}
use Rattle.axis.specs.declared.kinds.Mark.TheVariants as Marks
use Rattle.axis.specs.declared.edge.Axis.{Axis}
use Rattle.axis.specs.Edge.{edge_at, put_edge, placed}
use Rattle.axis.specs.Limits.{most_passed}
use Rattle.axis.specs.Accepted.{Below, AxisWithin}
use Rattle.words.specs.Edge.{edges_in}
use Rattle.stems.specs.declared.kinds.Mode.{Mode}
use Rattle.stems.specs.declared.kinds.Second.{Second}
use Rattle.stems.specs.Plan.{second_edge, is_over}
use Rattle.stems.specs.Steps.{LastWithin}
use Rattle.stems.specs.Handed.{most_fitted}
use Rattle.stems.specs.Stems.{State, stems_of}
use Rattle.stems.specs.StepsPass.{SettledWithout}
use Rattle.words_call.specs.Lent.{edges_of}
use Rattle.words_edge.specs.Whole.{Whole, axis_in, Became}
use Rattle.stems_words.specs.declared.pass.Passed.{Passed}
use Rattle.stems_words.specs.declared.visit.Progress.{Progress}

-- ---- the stores
-- edge k as the second edge of a stem
abbrev pub putting_second : ℕ → Second → Axis → Axis
putting_second k x axis = put_edge axis k (second_edge (edge_at axis k) x)

-- edge i, linked to edge k, put back to the previous edge where that bounds it
abbrev pub holding : Bool → ℕ → ℕ → Axis → Axis
holding bounded i k axis =
    put_edge axis i
    (cond (bounded && is_over (edge_at axis i) (edge_at axis (i - 1)) (edge_at axis k)) (placed (edge_at axis i) (edge_at axis (i - 1)).pos Marks.Bound) (edge_at axis i))

-- ---- a visit
-- one more edge is passed over
abbrev pub one_more : Progress → Progress
one_more p = record { count = p.count + 1; anchor = p.anchor; trail = p.trail }

-- an axis and the progress
abbrev pub state_of : Axis → Progress → State
state_of axis p = record { axis = axis; count = p.count; anchor = p.anchor; trail = p.trail }

-- what the visit of edge i may use: without the fallback, that the edges are settled
pub record ReadyVisit (fallback : Bool) (ws : List ℤ) (p : Progress) (i : ℕ) : Type 0 where
  pub whole : Whole ws
  pub below : i < edges_in ws
  pub axis : AxisWithin most_fitted (edges_of ws)
  pub count : p.count ≤ i
  pub anchor : Below (edges_in ws) p.anchor
  pub last : LastWithin p.trail.last
  pub delta : Between most_passed most_passed p.trail.delta
  pub without : SettledWithout fallback (edges_in ws) (edges_of ws)

-- ---- the pass
-- what it makes of an axis
abbrev pub aligning_stems : Mode → List ℤ → Link → Axis → Axis
aligning_stems m xs start axis = (stems_of m xs start axis).axis

-- the edges, the count and the anchor are those of the pass, on every dimension
pub record StemsPassed (m : Mode) (xs : List ℤ) (start : Link) (r : Passed) (ws ws' : List ℤ) : Type 0 where
  pub words : Became (aligning_stems m xs start) ws ws'
  pub count : (d : Dimension) → r.count ≡ (stems_of m xs start (axis_in ws d)).count
  pub anchor : (d : Dimension) → r.anchor ≡ (stems_of m xs start (axis_in ws d)).anchor
