-- `lowercase_m_list::hint::hint_lowercase_m` meets its contract: what is put back is what the promise says.
use mathlib.Core.Path.{sym, ap, subst, ◌∙◌}
use mathlib.Core.List.{List}
use Prim.Native.Nat.{◌≤◌}
use lib.ListN.{length}
use Rattle.axis.specs.Limits.{most_edges}
use Rattle.axis.specs.declared.edge.Edge.{Edge}
use Rattle.refusals.proofs.Outcomes.{exit-answer}
use Rattle.lowercase_m_list.specs.Table.{Table}
use Rattle.lowercase_m_list.specs.Table.{hint_table}
use Rattle.lowercase_m_list.proofs.Copies.{copied_none}
use Rattle.lowercase_m_list.proofs.Outcomes.{few-back, outcome}
use Rattle.lowercase_m_list.proofs.hint.hint_lowercase_m.Goals as goal

pub returns-in_err-hinted : goal.returns-in_err-hinted
returns-in_err-hinted c =
    rw (exit-answer _ _ c.from_residual.ensures.1)
    (outcome c.args.edges.now c.args.group _
    (c.in_err-hinted.ensures ∙ ap (λ (t : List Edge). hint_table t (length c.args.edges.now) c.args.group) c.load-table.ensures) (sym (copied_none _ _)))

pub store-requires : goal.store-requires
store-requires c =
    subst (λ (t : Table). (t.count ≤ length c.args.edges.now) × (t.count ≤ most_edges)) (sym c.in_ok-hinted.ensures)
    (few-back c.load-table.result (length c.args.edges.now) c.args.group)

pub returns : goal.returns
returns c =
    outcome c.args.edges.now c.args.group _
    (c.in_ok-hinted.ensures ∙ ap (λ (t : List Edge). hint_table t (length c.args.edges.now) c.args.group) c.load-table.ensures) c.store.ensures
