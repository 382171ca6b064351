-- `log_digits::digit::all_digits` meets its contract. The invariant: the line is digits where what is left is.
use mathlib.Core.Path.{◌≡◌}
use lib.ListN.{drop}
use Rattle.log_digits.specs.Digits.{all_digits}
use Rattle.log_digits.proofs.digit.all_digits.Given as goal

abbrev pub invariant-loop-char : goal.invariant-loop-char
invariant-loop-char l = all_digits l.line ≡ all_digits (drop l.char-index l.line)
