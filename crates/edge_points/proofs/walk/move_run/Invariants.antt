-- `edge_points::walk::move_run` meets its contract. The invariant: moving what is left gives the whole, and what is left has not moved.
use Rattle.edge_points.specs.Steps.{points}
use Rattle.edge_points.proofs.Moves.{Moving}
use Rattle.edge_points.proofs.walk.move_run.Given as goal

abbrev pub invariant-loop-p : goal.invariant-loop-p
invariant-loop-p l = Moving l.snap l.edge l.from l.to (points l.initial.currents l.initial.touched) (points l.currents l.touched) l.p
