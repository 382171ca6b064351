-- `khsaemudol::khs_pack_axis` meets its contract.
use Rattle.khsaemudol.proofs.khs_pack_axis.Goals as goal

pub returns : goal.returns
returns c = rw c.answer_of.ensures c.lend_packing.ensures
