-- `shown_rows::changes::cross_line` meets its contract.
use native.Mathlib.Omega.{arith}
use Rattle.shown_rows.proofs.Totals.{added, added_none}
use borrow.Author.Rules.{rules}
use Rattle.shown_rows.proofs.changes.cross_line.Goals as goal

pub returns-then-k-changes : goal.returns-then-k-changes
returns-then-k-changes c =
    let p = c in
    let f = p in
    let s = f in
    added s.args.left s.args.lx s.args.ly s.args.hx s.args.hy s.args.y s.args.by
    f.first_column.result p.place_in-k.result c.gained.result
    s.args.changes.now f.first_column.ensures p.place_in-k.ensures (omega arith) c.gained.ensures.sum

pub returns-else-k-changes : goal.returns-else-k-changes
returns-else-k-changes c =
    let p = c in
    let f = p in
    let s = f in
    added_none s.args.left s.args.lx s.args.ly s.args.hx s.args.hy s.args.y s.args.by
    f.first_column.result p.place_in-k.result s.args.changes.now
    f.first_column.ensures p.place_in-k.ensures (omega arith)
