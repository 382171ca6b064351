-- `khsaemudol::khs_path` meets its contract.
use Rattle.khsaemudol.proofs.khs_path.Goals as goal

pub returns : goal.returns
returns c = rw c.answer_of.ensures c.path.ensures
