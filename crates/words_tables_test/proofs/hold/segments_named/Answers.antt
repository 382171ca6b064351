-- `words_tables_test::hold::segments_named` meets its contract.
use borrow.Author.Rules.{rules}
use borrow.Author.Tests.{not-false}
use native.Mathlib.Omega.{arith}
use mathlib.Core.Path.{◌≡◌, refl, sym}
use mathlib.Core.Bool.{true}
use Prim.Native.Nat.{ℕ, ◌-◌, ◌≤◌}
use Rattle.axis.specs.Refusals.{every, edge_segments}
use Rattle.axis.specs.Edge.{edge_at}
use Rattle.axis.proofs.Tests.{every-none, every_more, every-done}
use Rattle.turn.specs.Indices.{edges_segments}
use Rattle.words.specs.Edge.{edges_in}
use Rattle.words_call.specs.Lent.{edges_of}
use Rattle.words_call.proofs.Holding.{clash}
use Rattle.words_edge.proofs.Wholes.{edges-len}
use Rattle.words_tables_test.specs.Held.{indices_to}
use Rattle.words_edge_test.proofs.Answers.{both-hold}
use Rattle.words_tables_test.proofs.Tables.{ends_named}
use Rattle.words_tables_test.proofs.hold.segments_named.Goals as goal

pub indices_to-indices-requires : goal.indices_to-indices-requires
indices_to-indices-requires c = c.requires.1

pub loop-i-init : goal.loop-i-init
loop-i-init c = (omega arith, c.indices_to-indices.ensures, every-none _)

pub overflow_mul-i : goal.overflow_mul-i
overflow_mul-i c = omega (arith, c.requires.0.few)

pub in_at-first-requires : goal.in_at-first-requires
in_at-first-requires c = omega (arith, c.loop-i-test.true)

pub overflow_mul-i-in-loop-i : goal.overflow_mul-i-in-loop-i
overflow_mul-i-in-loop-i c = omega (arith, c.requires.0.few)

pub in_at-last-requires : goal.in_at-last-requires
in_at-last-requires c = omega (arith, c.loop-i-test.true)

pub returns-then-not-last : goal.returns-then-not-last
returns-then-not-last c = λ h. absurd (clash h)

pub overflow_add-i : goal.overflow_add-i
overflow_add-i c = omega arith

pub loop-i-smaller : goal.loop-i-smaller
loop-i-smaller c = omega arith

pub loop-i-preserved : goal.loop-i-preserved
loop-i-preserved c =
    let t = c in
    let k = t in
    let j = k in
    let l = j in
    let v = l.loop-i.invariant in
    let s = l in (
      omega arith,
      v.1,
      every_more _ _ v.2
          (ends_named s.args.edges.now l.loop-i.i s.requires.0 (omega arith) _ s.requires.1 v.1 j.in_at-first.ensures k.in_at-last.ensures
          refl (both-hold refl refl c.if-not-last.false)),
    )

pub returns : goal.returns
unfolding edges_segments
returns c = λ _.
    let l = c in
    let v = l.loop-i.invariant in
    let s = l in
    let es = s.args.edges.now in
    sym (every-done _ l.loop-i.i (edges_in es) _ v.0 (omega arith) (omega (arith, edges-len es, s.requires.0.few)) v.2)
