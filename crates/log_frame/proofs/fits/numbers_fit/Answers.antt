-- `log_frame::fits::numbers_fit` meets its contract. The invariant: the numbers fit where those that are left do.
use native.Mathlib.Omega.{arith}
use mathlib.Core.Path.{◌≡◌, sym, ap, ◌∙◌}
use lib.ListN.{get_or}
use lib.IntN.{pos}
use mir.Syntax.{w32}
use Rattle.signed.proofs.Signed.{is, got}
use Rattle.words_shape.specs.Shape.{is_in, short}
use Rattle.log_frame.proofs.Tested.{numbers-stop, numbers_on, numbers-end}
use Rattle.log_frame.proofs.fits.numbers_fit.Goals as goal

pub returns-then-not-is_in : goal.returns-then-not-is_in
returns-then-not-is_in c =
    let told : c.is_in.result ≡ is_in short (get_or c.args.list.now c.loop-number.number-index (pos 0)) = c.is_in.ensures ∙ ap (is_in short) (is (got w32 (get_or c.args.list.now c.loop-number.number-index (pos 0)) c.is_in-arg-1.given)) in
    sym (c.loop-number.invariant ∙ numbers-stop c.args.list.now c.loop-number.number-index (omega arith) (sym told ∙ c.if-not-is_in.true))

pub loop-number-preserved : goal.loop-number-preserved
loop-number-preserved c =
    let told : c.is_in.result ≡ is_in short (get_or c.args.list.now c.loop-number.number-index (pos 0)) = c.is_in.ensures ∙ ap (is_in short) (is (got w32 (get_or c.args.list.now c.loop-number.number-index (pos 0)) c.is_in-arg-1.given)) in
    c.loop-number.invariant ∙ numbers_on c.args.list.now c.loop-number.number-index (omega arith) (sym told ∙ c.if-not-is_in.false)

pub returns : goal.returns
returns c = sym (c.loop-number.invariant ∙ numbers-end c.args.list.now c.loop-number.number-index (omega arith))
