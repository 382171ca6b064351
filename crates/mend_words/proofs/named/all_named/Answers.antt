-- `mend_words::named::all_named` meets its contract: each turn tests one count.
use mathlib.Core.Path.{◌≡◌, refl, sym}
use mathlib.Core.Bool.{true}
use Prim.Native.Nat.{◌≤◌, ◌-◌}
use native.Mathlib.Omega.{arith}
use borrow.Author.Tests.{lt-ltb, le-ltb}
use lib.ListN.{get_or}
use Rattle.axis.specs.Limits.{most_edges}
use Rattle.axis.specs.Refusals.{every}
use Rattle.axis.proofs.Tests.{every-none, every_more, every-fails, every-done}
use Rattle.mend_words.specs.Named.{is_named}
use Rattle.mend_words.proofs.named.all_named.Goals as goal

pub loop-k-init : goal.loop-k-init
loop-k-init c = (omega arith, c.requires, every-none _)

pub offset_bounds-counts-k : goal.offset_bounds-counts-k
offset_bounds-counts-k c = omega arith

pub bounds-counts-k : goal.bounds-counts-k
bounds-counts-k c = omega arith

pub returns-then-counts-k-lt1 : goal.returns-then-counts-k-lt1
returns-then-counts-k-lt1 c =
    let n = c in
    let l = n in
    let counts = l.args.counts.now in
    sym (every-fails (is_named counts) l.loop-k.k _ n.loop-k-test.true (le-ltb 0 (get_or counts l.loop-k.k 0) (omega (arith, c.if-counts-k-lt1.true))))

pub overflow_step-k : goal.overflow_step-k
overflow_step-k c = omega arith

pub loop-k-smaller : goal.loop-k-smaller
loop-k-smaller c = omega arith

pub loop-k-preserved : goal.loop-k-preserved
loop-k-preserved c =
    let o = c in
    let l = o.loop-k in
    let counts = o.args.counts.now in
    (omega arith, l.invariant.1, every_more (is_named counts) l.k l.invariant.2 (lt-ltb 0 (get_or counts l.k 0) (omega (arith, c.if-counts-k-lt1.false))))

pub returns : goal.returns
returns c = let l = c.loop-k in every-done _ l.k _ _ l.invariant.0 c.loop-k-test.false refl l.invariant.2
