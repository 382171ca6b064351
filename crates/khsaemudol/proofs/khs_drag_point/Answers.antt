-- `khsaemudol::khs_drag_point` meets its contract.
use Rattle.khsaemudol.proofs.khs_drag_point.Goals as goal

pub returns : goal.returns
returns c = rw c.answer_of.ensures c.lend_drag.ensures
