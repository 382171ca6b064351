-- `khsaemudol::khs_align_remaining_edges` meets its contract.
use Rattle.signed.proofs.Signed.{is}
use Rattle.khsaemudol.proofs.khs_align_remaining_edges.Goals as goal

pub returns : goal.returns
returns c = rw c.answer_of.ensures (simp (is c.ranges.dim, is c.ranges.group, is c.ranges.count, is c.ranges.anchor) at c.lend_remaining.ensures)
