-- `log_digits::bytes::number_at` meets its contract.
use borrow.Author.Rules.{rules}
use mathlib.Core.Path.{◌∙◌}
use mir.Syntax.{w32}
use Rattle.signed.proofs.Signed.{is, got}
use Rattle.signed.proofs.By.{by₂}
use Rattle.log_digits.specs.Digits.{number_of}
use Rattle.log_digits.proofs.bytes.number_at.Goals as goal

pub returns : goal.returns
returns c =
    is (got w32 c.number_of.result c.number_of.type_inv)
    ∙ by₂ number_of c.number_of.ensures c.byte_at-high.ensures c.byte_at-low.ensures
