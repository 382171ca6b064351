-- `khsaemudol::khs_align_linked_edge` meets its contract.
use Rattle.signed.proofs.Signed.{is}
use Rattle.khsaemudol.proofs.khs_align_linked_edge.Goals as goal

pub returns : goal.returns
returns c = rw c.answer_of.ensures (rw (is c.ranges.rule, is c.ranges.base, is c.ranges.stem) at c.lend_linked_edge.ensures)
