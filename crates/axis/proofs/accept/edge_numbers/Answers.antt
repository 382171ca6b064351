-- `axis::accept::edge_numbers` meets its contract.
use mathlib.Core.Path.{◌≡◌, sym, ◌∙◌}
use mathlib.Core.Bool.{true}
use mir.Syntax.{w32}
use Rattle.signed.proofs.Signed.{is, got}
use Rattle.axis.specs.Limits.{most_units, most_pos}
use Rattle.axis.specs.Refusals.{within, edge_numbers}
use Rattle.axis.proofs.Tests.{tested}
use borrow.Author.Rules.{rules}
use Rattle.axis.proofs.accept.edge_numbers.Goals as goal
use Rattle.axis.proofs.accept.edge_numbers.Goals.{then-is_inside, else-is_inside}

pub returns-then-is_inside-2 : goal.returns-then-is_inside-2
unfolding edge_numbers
returns-then-is_inside-2 c =
    elim c.if-is_inside.branch [
      | then-is_inside w ↦
          let o = tested (within most_units) c.args.edge.opos _ _ _ (is (got w32 _ c.struct_told-1.given.1.0.1))
          c.is_inside.ensures w.if-is_inside.true in
          let p = tested (within most_pos) c.args.edge.pos _ _ _ (is (got w32 _ w.struct_told-then-is_inside-1.given.1.1.0.1))
          w.is_inside-then-is_inside.ensures (sym w.value-is ∙ c.if-is_inside-2.true) in
          rw (o, p) c.blue_holds.ensures
      | else-is_inside w ↦ cc
    ]

pub returns-else-is_inside-2 : goal.returns-else-is_inside-2
unfolding edge_numbers
returns-else-is_inside-2 c =
    elim c.if-is_inside.branch [
      | then-is_inside w ↦
          let o = tested (within most_units) c.args.edge.opos _ _ _ (is (got w32 _ c.struct_told-1.given.1.0.1))
          c.is_inside.ensures w.if-is_inside.true in
          let p = tested (within most_pos) c.args.edge.pos _ _ _ (is (got w32 _ w.struct_told-then-is_inside-1.given.1.1.0.1))
          w.is_inside-then-is_inside.ensures (sym w.value-is ∙ c.if-is_inside-2.false) in
          rw (o, p) c.if-is_inside-2.false
      | else-is_inside w ↦
          let o = tested (within most_units) c.args.edge.opos _ _ _ (is (got w32 _ c.struct_told-1.given.1.0.1))
          c.is_inside.ensures w.if-is_inside.false in
          rw o c.if-is_inside-2.false
    ]
