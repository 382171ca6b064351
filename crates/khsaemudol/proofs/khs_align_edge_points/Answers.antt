-- `khsaemudol::khs_align_edge_points` meets its contract.
use Rattle.signed.proofs.Signed.{is}
use Rattle.khsaemudol.proofs.khs_align_edge_points.Goals as goal

pub returns : goal.returns
returns c = rw c.answer_of.ensures (rw (is c.ranges.snap, is c.ranges.done_alone) at c.lend_edge_points.ensures)
