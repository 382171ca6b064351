-- `khsaemudol::khs_mend` meets its contract.
use Rattle.khsaemudol.proofs.khs_mend.Goals as goal

pub returns : goal.returns
returns c = rw c.answer_of.ensures c.lend_mending.ensures
