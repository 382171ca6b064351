-- `khsaemudol::khs_compute_mid_pos` meets its contract.
use borrow.Author.Rules.{rules}
use mir.Syntax.{w16}
use Rattle.signed.proofs.Signed.{is, got}
use Rattle.khsaemudol.proofs.khs_compute_mid_pos.Goals as goal

pub returns : goal.returns
returns c =
    let s = c in
    cc (is (got w16 c.compute_mid_pos.result c.compute_mid_pos.type_inv), c.compute_mid_pos.ensures, is s.ranges.min, is s.ranges.max)
