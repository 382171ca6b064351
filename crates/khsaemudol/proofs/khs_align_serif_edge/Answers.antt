-- `khsaemudol::khs_align_serif_edge` meets its contract.
use Rattle.signed.proofs.Signed.{is}
use Rattle.khsaemudol.proofs.khs_align_serif_edge.Goals as goal

pub returns : goal.returns
returns c = rw c.answer_of.ensures (rw (is c.ranges.base, is c.ranges.serif) at c.lend_serif_edge.ensures)
