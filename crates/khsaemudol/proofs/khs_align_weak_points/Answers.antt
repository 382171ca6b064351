-- `khsaemudol::khs_align_weak_points` meets its contract.
use Rattle.khsaemudol.proofs.khs_align_weak_points.Goals as goal

pub returns : goal.returns
returns c = rw c.answer_of.ensures c.align_weak_points.ensures
