-- `khsaemudol::khs_align_with_references` meets its contract.
use Rattle.khsaemudol.proofs.khs_align_with_references.Goals as goal

pub returns : goal.returns
returns c = rw c.answer_of.ensures c.align_with_references.ensures
