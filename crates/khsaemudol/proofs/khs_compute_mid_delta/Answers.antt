-- `khsaemudol::khs_compute_mid_delta` meets its contract.
use borrow.Author.Rules.{rules}
use mathlib.Core.Path.{◌∙◌}
use mir.Syntax.{w16}
use Rattle.signed.proofs.Signed.{is, got}
use Rattle.khsaemudol.proofs.khs_compute_mid_delta.Goals as goal

pub returns : goal.returns
returns c =
    let s = c in
    is (got w16 c.compute_mid_delta.result c.compute_mid_delta.type_inv) ∙ rw (is s.ranges.min, is s.ranges.max) at c.compute_mid_delta.ensures
