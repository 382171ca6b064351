-- `khsaemudol::khs_hint_lowercase_m` meets its contract.
use Rattle.signed.proofs.Signed.{is}
use Rattle.khsaemudol.proofs.khs_hint_lowercase_m.Goals as goal

pub returns : goal.returns
returns c = rw c.answer_of.ensures (rw (is c.ranges.group) at c.lend_m.ensures)
