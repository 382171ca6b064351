-- `zones::zone::put_on_zone` meets its contract.
use mathlib.Core.Path.{◌∙◌}
use Rattle.signed.proofs.Signed.{is}
use Rattle.axis.specs.Edge.{fixed_at}
use borrow.Author.Rules.{rules}
use Rattle.zones.proofs.zone.put_on_zone.Goals as goal

pub returns-then-edge : goal.returns-then-edge
returns-then-edge c =
    let t = c in
    let s = t in
    rw t.if-edge.true (c.fix_at.ensures ∙ (λ i. fixed_at s.args.edge (is s.ranges.fitted i) s.args.edge.mark))

pub returns : goal.returns
returns c =
    let m = c in
    let t = m in
    let s = t in
    rw t.if-edge.false (c.fix_at-2.ensures ∙ (λ i. fixed_at s.args.edge (is s.ranges.fitted i) (m.zone_mark.ensures i)))
