-- `edge_points_words::pass::move_all` meets its contract.
use native.Mathlib.Omega.{arith}
use mathlib.Core.Path.{sym, subst, ◌∙◌}
use Prim.Native.Nat.{ℕ, ◌-◌}
use Rattle.edge_points.specs.Steps.{points}
use Rattle.edge_points_words.specs.Steps.{Accepted}
use Rattle.edge_points_words.proofs.Passing.{Passing, passing-starts, passing-next, passing-ends}
use Rattle.edge_points_words.proofs.pass.move_all.Goals as goal

pub loop-i-init : goal.loop-i-init
loop-i-init c = passing-starts _ _ _ _ _ _ c.requires.touched_len.1

pub move_segment-requires : goal.move_segment-requires
move_segment-requires c =
    let t = c in
    let l = t in
    let s = l in
    let a = s.args in
    let p = l.loop-i.invariant in
    record {
      accepted = (
        subst (λ (n : ℕ). Accepted a.segments.now a.edges.now a.alone n a.ends.now) (sym p.currents_size) s.requires.accepted,
        omega
            (arith, t.loop-i-test.true),
      );
      touched_len = (p.marks_size ∙ s.requires.touched_len.0 ∙ sym p.currents_size, p.reach);
    }

pub overflow_step-i : goal.overflow_step-i
overflow_step-i c =
    let t = c in omega (arith, t.loop-i-test.true, t.requires.accepted.segments.few)

pub loop-i-smaller : goal.loop-i-smaller
loop-i-smaller c =
    let turn = c in
    omega (arith, turn.loop-i-test.true)

pub loop-i-preserved : goal.loop-i-preserved
loop-i-preserved c =
    let m = c in
    let t = m in
    let l = t in
    passing-next l.requires.accepted l.loop-i.invariant (omega (arith, t.loop-i-test.true)) m.move_segment.ensures

pub shape_of-currents : goal.shape_of-currents
shape_of-currents c = c.loop-i.invariant.currents_size

pub shape_of-touched : goal.shape_of-touched
shape_of-touched c = c.loop-i.invariant.marks_size

pub returns : goal.returns
returns c = passing-ends c.loop-i.invariant c.loop-i-test.false
