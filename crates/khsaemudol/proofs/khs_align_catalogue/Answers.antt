-- `khsaemudol::khs_align_catalogue` meets its contract.
use Rattle.khsaemudol.proofs.khs_align_catalogue.Goals as goal

pub returns : goal.returns
returns c = rw c.answer_of.ensures c.align_catalogue.ensures
