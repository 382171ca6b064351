-- `log_text::text::put_result` meets its contract.
use mathlib.Core.Path.{ap, ◌∙◌}
use mir.Syntax.{w32}
use mir.Val.{of_z}
use Rattle.signed.proofs.Signed.{is}
use Rattle.log_text.proofs.Putting.{result-written}
use Rattle.log_text.proofs.text.put_result.Goals as goal

pub returns : goal.returns
returns c = let a = c.args in
    result-written a.out.now a.at a.res
    c.bits_of-bits.result
    (c.bits_of-bits.ensures
    ∙ ap (of_z w32) (is c.ranges.res))
    c.requires
    c.put_byte.ensures
    c.put_byte-2.ensures c.put_byte-3.ensures
