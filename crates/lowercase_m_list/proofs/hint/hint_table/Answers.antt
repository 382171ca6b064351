-- `lowercase_m_list::hint::hint_table` meets its contract.
use mathlib.Core.Path.{ap, ◌∙◌}
use native.Mathlib.Omega.{arith}
use Rattle.refusals.proofs.Outcomes.{number-above, exit}
use Rattle.lowercase_m_list.specs.Table.{table_given}
use Rattle.lowercase_m_list.proofs.Outcomes.{refused, accepted}
use Rattle.lowercase_m_list.proofs.hint.hint_table.Goals as goal

pub returns-in_err-hinted : goal.returns-in_err-hinted
returns-in_err-hinted c =
    ap (table_given c.args.edges c.args.len) (exit _ _ c.from_residual.ensures.1)
    ∙ refused _ c.args.edges c.args.len c.args.group c.in_err-hinted.ensures (number-above _)

pub returns : goal.returns
returns c = accepted _ c.args.edges c.args.len c.args.group c.in_ok-hinted.ensures (omega arith)
