-- `khsaemudol::khs_latin_remaining_bounds` meets its contract.
use Rattle.signed.proofs.Signed.{is}
use Rattle.khsaemudol.proofs.khs_latin_remaining_bounds.Goals as goal

pub returns : goal.returns
returns c = rw c.answer_of.ensures (rw (is c.ranges.edge) at c.lend_bounds.ensures)
