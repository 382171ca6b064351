-- `khsaemudol::khs_link_segments_cjk` meets its contract.
use Rattle.signed.proofs.Signed.{is}
use Rattle.khsaemudol.proofs.khs_link_segments_cjk.Goals as goal

pub returns : goal.returns
returns c = rw c.answer_of.ensures (rw (is c.ranges.major_dir, is c.ranges.units_per_em, is c.ranges.scale) at c.lend_linking.ensures)
