-- `khsaemudol::khs_write_frame` meets its contract.
use Rattle.khsaemudol.proofs.khs_write_frame.Goals as goal

pub returns : goal.returns
returns c = rw c.answer_of.ensures c.lend_write.ensures
