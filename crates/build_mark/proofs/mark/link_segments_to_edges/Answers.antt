-- `build_mark::mark::link_segments_to_edges` meets its contract: each turn marks one edge, each inner turn one of its segments.
use borrow.Author.Rules.{rules}
use native.Mathlib.Omega.{arith}
use mathlib.Core.Path.{◌≡◌, refl, ap, ◌∙◌}
use mathlib.Core.Bool.{true}
use Prim.Native.Nat.{◌-◌, ◌≤◌, ◌<◌}
use lib.ListN.{length}
use Rattle.axis.specs.Edge.{edge_at}
use Rattle.axis.specs.Limits.{most_edges, most_segments}
use Rattle.axis.specs.Ring.{walk, ends}
use Rattle.axis.proofs.Rings.{Passes, walk-passes}
use Rattle.build_join.specs.Walks.{next_in}
use Rattle.build_join.proofs.Rings.{fewer}
use Rattle.build_mark.specs.Marks.{marks}
use Rattle.build_mark.specs.Steps.{marked}
use Rattle.build_mark.proofs.Marking.{mark_on, mark-end, marked-none, marked_more}
use Rattle.build_mark.proofs.mark.link_segments_to_edges.Goals as goal
use Rattle.build_mark.proofs.mark.link_segments_to_edges.Goals.{Else-ix-last}

-- one step on
passes : (c : Else-ix-last) → Passes (next_in c.args.next)
    most_segments
    (edge_at c.args.edges c.loop-edge_ix.edge_ix
    ).last
    most_segments c.loop-ix.ix
passes c = walk-passes _ _ _ _ _ c.if-ix-last.false c.loop-ix.invariant.3

pub forget_all-table-requires : goal.forget_all-table-requires
forget_all-table-requires c = c.requires.0

pub loop-edge_ix-init : goal.loop-edge_ix-init
loop-edge_ix-init c = (omega arith, c.requires.1, marked-none _ _ _)

pub offset_bounds-edges-edge_ix : goal.offset_bounds-edges-edge_ix
offset_bounds-edges-edge_ix c = omega arith

pub bounds-edges-edge_ix : goal.bounds-edges-edge_ix
bounds-edges-edge_ix c = omega arith

pub loop-ix-init : goal.loop-ix-init
loop-ix-init c =
    let in-outer = c.before in
    let outer = in-outer.before in
    let start = outer.before.before in
    let h = in-outer.loop-edge_ix-test.true in
    (start.requires.2.starts _ h, h, outer.loop-edge_ix.invariant.1, start.requires.2.stops _ h, refl)

pub offset_bounds-table-at : goal.offset_bounds-table-at
offset_bounds-table-at c = omega arith

pub bounds-table-at : goal.bounds-table-at
bounds-table-at c = omega arith

pub offset_bounds-next-at : goal.offset_bounds-next-at
offset_bounds-next-at c = omega arith

pub bounds-next-at : goal.bounds-next-at
bounds-next-at c = omega arith

pub overflow_cast-edge_ix : goal.overflow_cast-edge_ix
overflow_cast-edge_ix c = omega arith

pub offset_bounds-table-at-in-loop-ix : goal.offset_bounds-table-at-in-loop-ix
offset_bounds-table-at-in-loop-ix c = omega arith

pub bounds-table-at-in-loop-ix : goal.bounds-table-at-in-loop-ix
bounds-table-at-in-loop-ix c = omega arith

pub loop-ix-smaller : goal.loop-ix-smaller
loop-ix-smaller c = fewer _ _ _ _ _ (passes c)

pub loop-ix-preserved : goal.loop-ix-preserved
loop-ix-preserved c =
    let p = passes c in
    let inner = c.loop-ix in
    (p.below, inner.invariant.1, inner.invariant.2, p.on, mark_on _ _ _ _ _ _ _ c.member_of.ensures inner.invariant.4 p)

pub overflow_step-edge_ix : goal.overflow_step-edge_ix
overflow_step-edge_ix c = omega arith

pub loop-edge_ix-smaller : goal.loop-edge_ix-smaller
loop-edge_ix-smaller c = omega arith

pub loop-edge_ix-preserved : goal.loop-edge_ix-preserved
loop-edge_ix-preserved c =
    let inner = c.before.before.before in
    let outer = inner.before.before.before in (
      omega arith,
      outer.loop-edge_ix.invariant.1,
      marked_more _ _ _ _ _ _ outer.loop-edge_ix.invariant.2
          (mark-end _ _ _ _ _ _ _ c.member_of.ensures inner.loop-ix.invariant.4 c.if-ix-last.true),
    )

pub returns : goal.returns
returns c =
    let start = c.before.before.before in
    let q = c.loop-edge_ix in
    let e : q.edge_ix ≡ start.args.edges.len = omega arith in
    rw e at q.invariant.2 ∙ ap (marked start.args.next start.args.edges start.args.edges.len) c.forget_all-table.ensures
