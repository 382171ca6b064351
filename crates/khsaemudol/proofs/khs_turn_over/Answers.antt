-- `khsaemudol::khs_turn_over` meets its contract.
use Rattle.khsaemudol.proofs.khs_turn_over.Goals as goal

pub returns : goal.returns
returns c = rw c.answer_of.ensures c.lend_turning.ensures
