-- `fixed_c::fixed_c_mul` meets its contract.
use borrow.Author.Rules.{rules}
use mir.Syntax.{w64}
use Rattle.signed.proofs.Signed.{is, got}
use Rattle.fixed_c.proofs.fixed_c_mul.Goals as goal

pub returns : goal.returns
returns c =
    let s = c in
    cc (is (got w64 c.wide_mul.result c.wide_mul.type_inv), c.wide_mul.ensures, is s.ranges.a, is s.ranges.b)
