-- `khsaemudol::khs_remember_references` meets its contract.
use Rattle.khsaemudol.proofs.khs_remember_references.Goals as goal

pub returns : goal.returns
returns c = rw c.answer_of.ensures c.remember_references.ensures
