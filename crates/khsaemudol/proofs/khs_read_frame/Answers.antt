-- `khsaemudol::khs_read_frame` meets its contract.
use Rattle.khsaemudol.proofs.khs_read_frame.Goals as goal

pub returns : goal.returns
returns c = rw c.answer_of.ensures c.lend_read.ensures
