-- `fit_edges_words::hold::positions_hold` meets its contract.
use borrow.Author.Tests.{not-true, not-false}
use native.Mathlib.Omega.{arith}
use mathlib.Core.Path.{◌≡◌, sym, ◌∙◌}
use mathlib.Core.Bool.{true}
use Prim.Native.Nat.{ℕ, ◌-◌, ◌≤◌}
use Rattle.axis.specs.Edge.{edge_at}
use Rattle.axis.specs.Refusals.{every}
use Rattle.axis.proofs.Tests.{every-none, every_more, every-fails, every-done}
use Rattle.words.specs.Edge.{edges_in}
use Rattle.words_call.specs.Lent.{edges_of}
use Rattle.words_edge.proofs.Wholes.{edges-len}
use Rattle.fit_edges_words.specs.Row.{pos_holds, positions_hold}
use Rattle.fit_edges_words.proofs.hold.positions_hold.Goals as goal

pub loop-i-init : goal.loop-i-init
loop-i-init c = (omega arith, every-none _)

pub pos_holds-requires : goal.pos_holds-requires
pos_holds-requires c = (c.requires, omega arith)

pub returns-then-not-pos_holds : goal.returns-then-not-pos_holds
unfolding positions_hold
returns-then-not-pos_holds c =
    let t = c in
    let l = t in
    let s = l in
    let w = s.requires in
    let ws = s.args.words.now in
    sym (every-fails _ l.loop-i.i _ (omega (arith, edges-len ws, w.few, t.loop-i-test.true))
    (sym t.pos_holds.ensures ∙ c.if-not-pos_holds.true))

pub overflow_step-i : goal.overflow_step-i
overflow_step-i c = omega arith

pub loop-i-smaller : goal.loop-i-smaller
loop-i-smaller c = omega arith

pub loop-i-preserved : goal.loop-i-preserved
loop-i-preserved c =
    let t = c in
    let l = t in
    (omega arith, every_more _ _ l.loop-i.invariant.1 (sym t.pos_holds.ensures ∙ c.if-not-pos_holds.false))

pub returns : goal.returns
unfolding positions_hold
returns c =
    let l = c in
    let s = l in
    let ws = s.args.words.now in
    every-done _ l.loop-i.i (edges_in ws) _ l.loop-i.invariant.0 (omega arith) (omega (arith, edges-len ws, s.requires.few)) l.loop-i.invariant.1
