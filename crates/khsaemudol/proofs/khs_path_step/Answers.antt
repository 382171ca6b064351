-- `khsaemudol::khs_path_step` meets its contract.
use Rattle.khsaemudol.proofs.khs_path_step.Goals as goal

pub returns : goal.returns
returns c = rw c.answer_of.ensures c.lend_step.ensures
