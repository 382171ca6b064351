-- `words_tables_test::hold::edges_named` meets its contract.
use borrow.Author.Rules.{rules}
use borrow.Author.Tests.{not-false}
use native.Mathlib.Omega.{arith}
use mathlib.Core.Path.{◌≡◌, sym}
use mathlib.Core.Bool.{true}
use Prim.Native.Nat.{ℕ, ◌-◌, ◌≤◌}
use Rattle.axis.specs.Refusals.{every, segment_edge}
use Rattle.axis.specs.Segment.{segment_at}
use Rattle.axis.proofs.Tests.{every-none, every_more, every-done}
use Rattle.turn.specs.Indices.{segments_edges}
use Rattle.words.specs.Segment.{segments_in, flat_segments}
use Rattle.words_call.proofs.Holding.{clash}
use Rattle.words_edge_test.specs.Held.{links_to}
use Rattle.words_segment.proofs.Wholes.{segments-len}
use Rattle.words_tables_test.proofs.Tables.{edge-named}
use Rattle.words_tables_test.proofs.hold.edges_named.Goals as goal

pub links_to-links-requires : goal.links_to-links-requires
links_to-links-requires c = c.requires.1

pub loop-i-init : goal.loop-i-init
loop-i-init c = (omega arith, c.links_to-links.ensures, every-none _)

pub overflow_mul-i : goal.overflow_mul-i
overflow_mul-i c = omega (arith, c.requires.0.few)

pub in_at-requires : goal.in_at-requires
in_at-requires c = omega (arith, c.loop-i-test.true)

pub returns-then-not-in_at : goal.returns-then-not-in_at
returns-then-not-in_at c = λ h. absurd (clash h)

pub overflow_add-i : goal.overflow_add-i
overflow_add-i c = omega arith

pub loop-i-smaller : goal.loop-i-smaller
loop-i-smaller c = omega arith

pub loop-i-preserved : goal.loop-i-preserved
loop-i-preserved c =
    let t = c in
    let l = t in
    let v = l.loop-i.invariant in
    let s = l in (
      omega arith,
      v.1,
      every_more _ _ v.2
          (edge-named s.args.segments.now l.loop-i.i s.requires.0 (omega arith) _ s.requires.1 v.1 t.in_at.ensures (c.if-not-in_at.false)),
    )

pub returns : goal.returns
unfolding segments_edges
returns c = λ _.
    let l = c in
    let v = l.loop-i.invariant in
    let s = l in
    let ws = s.args.segments.now in
    sym (every-done _ l.loop-i.i (segments_in ws) _ v.0 (omega arith) (omega (arith, segments-len ws, s.requires.0.few)) v.2)
