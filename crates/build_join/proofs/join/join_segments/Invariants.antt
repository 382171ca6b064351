-- `build_join::join::join_segments` meets its contract: the tables are those of the state before each segment.
use borrow.Author.Rules.{rules}
use borrow.Author.Tests.{not-true, not-false}
use native.Mathlib.Omega.{arith}
use native.Mathlib.Nat.{lt_of_lt_of_le}
use mathlib.Core.Path.{◌≡◌, refl, sym, ◌∙◌}
use mathlib.Core.Bool.{false}
use mathlib.Core.Logic.{⊎_elim}
use Prim.Native.Nat.{◌-◌, ◌≤◌, ◌<◌}
use lib.ListN.{set}
use mir.Syntax.{w32}
use Rattle.signed.proofs.Signed.{fits-in}
use Rattle.axis.specs.Edge.{empty_edge}
use Rattle.axis.specs.Limits.{most_edges, most_segments}
use Rattle.axis.specs.Segment.{segment_at}
use Rattle.build_join.specs.Joining.{stops_behind, settle, skips, may_join, state_at}
use Rattle.signed.proofs.Reading.{back}
use Rattle.build_join.proofs.Settling.{settle-end, settle-stop, settle-on}
use Rattle.build_join.proofs.Turns.{
  Stands,
  place,
  left,
  stands-begun,
  turn-room,
  turn-skip,
  turn_last,
  turn-ring,
  may-said,
  search-start,
  search_no,
  search-yes,
  search-end,
  search-stop,
  turn-join,
  turn-none,
  turn-made,
  turn-full,
}
use Rattle.build_join.proofs.join.join_segments.Given as goal

abbrev pub invariant-loop-k : goal.invariant-loop-k
invariant-loop-k l = (l.k ≤ l.edges) × (l.edges ≤ most_edges) × (l.best ≤ l.edges) × (left l.segments l.rules l.second l.i l.edges l.k l.best l.limit ≡ place l.segments l.rules l.second l.i)

abbrev pub decreases-loop-k : goal.decreases-loop-k
decreases-loop-k l = l.edges - l.k

abbrev pub invariant-loop-ix : goal.invariant-loop-ix
invariant-loop-ix l = (l.ix ≤ l.edges) × (l.edges < most_edges) × (l.axis.len ≡ l.initial.axis.len) × (l.axis.dim ≡ l.initial.axis.dim) × (l.axis.major_dir ≡ l.initial.axis.major_dir)
    × (settle (stops_behind l.rules l.edge) empty_edge l.edge l.axis.edges l.ix ≡ settle (stops_behind l.rules l.edge) empty_edge l.edge l.initial.axis.edges l.edges)

abbrev pub decreases-loop-ix : goal.decreases-loop-ix
decreases-loop-ix l = l.ix

abbrev pub invariant-loop-i : goal.invariant-loop-i
invariant-loop-i l = (l.i ≤ l.count) × Stands l.segments l.rules l.second l.i false l.axis l.next

abbrev pub decreases-loop-i : goal.decreases-loop-i
decreases-loop-i l = l.count - l.i
