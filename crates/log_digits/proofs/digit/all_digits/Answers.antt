-- `log_digits::digit::all_digits` meets its contract. The invariant: the line is digits where what is left is.
use native.Mathlib.Omega.{arith}
use mathlib.Core.Path.{sym, ◌∙◌}
use Rattle.log_digits.proofs.Lines.{digits-stop, digits-on, digits-end}
use Rattle.log_digits.proofs.digit.all_digits.Goals as goal

pub returns-then-not-is_digit : goal.returns-then-not-is_digit
returns-then-not-is_digit c =
    sym (c.loop-char.invariant ∙ digits-stop c.args.line.now c.loop-char.char-index (omega arith) (sym c.is_digit.ensures ∙ c.if-not-is_digit.true))

pub loop-char-preserved : goal.loop-char-preserved
loop-char-preserved c = c.loop-char.invariant ∙ digits-on c.args.line.now c.loop-char.char-index (omega arith) (sym c.is_digit.ensures ∙ c.if-not-is_digit.false)

pub returns : goal.returns
returns c = sym (c.loop-char.invariant ∙ digits-end c.args.line.now c.loop-char.char-index (omega arith))
