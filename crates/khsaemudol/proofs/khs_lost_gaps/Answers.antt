-- `khsaemudol::khs_lost_gaps` meets its contract.
use Rattle.signed.proofs.Signed.{is}
use Rattle.khsaemudol.proofs.khs_lost_gaps.Goals as goal

pub returns : goal.returns
returns c = rw c.answer_of.ensures (rw (is c.ranges.least, is c.ranges.linked) at c.lend_gaps.ensures)
