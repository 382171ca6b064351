-- `khsaemudol::khs_adjust_link` meets its contract.
use Rattle.signed.proofs.Signed.{is}
use Rattle.khsaemudol.proofs.khs_adjust_link.Goals as goal

pub returns : goal.returns
returns c = rw c.answer_of.ensures (rw (is c.ranges.edge, is c.ranges.dir, is c.ranges.top_to_bottom) at c.lend_adjust.ensures)
