-- `pack::number::number` meets its contract: number by number.
use borrow.Author.Rules.{rules}
use native.Mathlib.Omega.{arith}
use Prim.Native.Nat.{◌-◌, ◌≤◌}
use Rattle.axis.specs.Limits.{most_segments}
use Rattle.mend.specs.Following.{count}
use Rattle.pack.specs.Sets.{is_in}
use Rattle.pack.proofs.Lists.{Numbering, numbering-starts, numbering-few, numbering-next, numbering-ends, one_at_most}
use Rattle.pack.proofs.number.number.Goals as goal

pub loop-k-init : goal.loop-k-init
loop-k-init c = (omega arith, numbering-starts _)

pub overflow_cast-new : goal.overflow_cast-new
overflow_cast-new c = let l = c.loop-k in omega (arith, numbering-few l.invariant.1, l.invariant.0)

pub offset_bounds-new-k : goal.offset_bounds-new-k
offset_bounds-new-k c = omega arith

pub bounds-new-k : goal.bounds-new-k
bounds-new-k c = omega arith

pub bounds-kept-k : goal.bounds-kept-k
bounds-kept-k c = omega arith

pub overflow_add-count : goal.overflow_add-count
overflow_add-count c =
    let l = c.loop-k in
    omega (arith, numbering-few l.invariant.1, l.invariant.0, c.one_if-count.ensures, one_at_most (is_in c.args.kept.now l.k))

pub overflow_step-k : goal.overflow_step-k
overflow_step-k c = omega arith

pub loop-k-smaller : goal.loop-k-smaller
loop-k-smaller c = omega arith

pub loop-k-preserved : goal.loop-k-preserved
loop-k-preserved c =
    let l = c in (
      omega arith,
      numbering-next _ _ l.loop-k.count l.loop-k.k c.one_if-count.result l.loop-k.invariant.1 c.loop-k-test.true
          c.one_if-count.ensures,
    )

pub returns : goal.returns
returns c = let l = c in numbering-ends _ _ l.loop-k.count l.loop-k.k (omega (arith, l.loop-k.invariant.0, c.loop-k-test.false)) l.loop-k.invariant.1
