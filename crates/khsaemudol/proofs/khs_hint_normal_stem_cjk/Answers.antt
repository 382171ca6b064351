-- `khsaemudol::khs_hint_normal_stem_cjk` meets its contract.
use Rattle.signed.proofs.Signed.{is}
use Rattle.khsaemudol.proofs.khs_hint_normal_stem_cjk.Goals as goal

pub returns : goal.returns
returns c = rw c.answer_of.ensures (simp (is c.ranges.dim, is c.ranges.stem_adjust, is c.ranges.rule, is c.ranges.edge, is c.ranges.edge2, is c.ranges.delta)
    at c.lend_stem.ensures)
