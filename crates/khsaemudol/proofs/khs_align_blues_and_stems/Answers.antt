-- `khsaemudol::khs_align_blues_and_stems` meets its contract.
use Rattle.signed.proofs.Signed.{is}
use Rattle.khsaemudol.proofs.khs_align_blues_and_stems.Goals as goal

pub returns : goal.returns
returns c = rw c.answer_of.ensures (simp (is c.ranges.dim, is c.ranges.group, is c.ranges.stem_adjust, is c.ranges.top_to_bottom, is c.ranges.rule)
    at c.lend_joined.ensures)
