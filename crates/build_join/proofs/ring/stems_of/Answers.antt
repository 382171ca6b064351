-- `build_join::ring::stems_of` meets its contract: each turn fills in one.
use Rattle.std.specs.Prelude.{Some}
use borrow.Author.Rules.{rules}
use borrow.Author.Tests.{not-true, not-false}
use native.Mathlib.Omega.{arith}
use native.Mathlib.Nat.{lt_of_lt_of_le}
use mathlib.Core.Path.{refl}
use Prim.Native.Nat.{◌<◌, ◌≤◌, ◌-◌}
use mir.Syntax.{w16}
use Rattle.signed.proofs.Signed.{got}
use Rattle.axis.specs.Limits.{most_segments}
use Rattle.axis.specs.Segment.{segment_at}
use Rattle.signed.proofs.Reading.{cast-16, back-16}
use Rattle.build_join.proofs.Stems.{Filled, filled_none, filled-skip, filled_more, stems-none, stems-all}
use Rattle.build_join.proofs.ring.stems_of.Goals as goal

pub returns-then-not-cjk : goal.returns-then-not-cjk
returns-then-not-cjk c = stems-none _ _ (c.if-not-cjk.true) c.requires.few

pub loop-i-init : goal.loop-i-init
loop-i-init c = (omega arith, c.requires.few, filled_none _)

pub offset_bounds-segments-i : goal.offset_bounds-segments-i
offset_bounds-segments-i c = omega arith

pub bounds-segments-i : goal.bounds-segments-i
bounds-segments-i c = omega arith

pub overflow_step-i : goal.overflow_step-i
overflow_step-i c = omega arith

pub loop-i-smaller-in_default : goal.loop-i-smaller-in_default
loop-i-smaller-in_default c = omega arith

pub loop-i-preserved-in_default : goal.loop-i-preserved-in_default
loop-i-preserved-in_default c = (
  omega arith,
  c.loop-i.invariant.1,
  filled-skip _ _ _ (omega arith) c.loop-i.invariant.2 c.in_default.is,
)

pub offset_bounds-segments-at : goal.offset_bounds-segments-at
offset_bounds-segments-at c = omega arith

pub bounds-segments-at : goal.bounds-segments-at
bounds-segments-at c =
    let inside : c.in-Some.ix < most_segments =
    lt_of_lt_of_le ((c.requires.segment _ c.loop-i-test.true).link.at _ c.in-Some.is) c.requires.few in
    inside

pub overflow_cast-stems : goal.overflow_cast-stems
overflow_cast-stems c =
    cast-16 (segment_at c.args.segments c.in-Some.ix).pos c.struct_told-1.given.1.1.0.1

pub offset_bounds-stems-i : goal.offset_bounds-stems-i
offset_bounds-stems-i c = omega arith

pub bounds-stems-i : goal.bounds-stems-i
bounds-stems-i c = omega arith

pub overflow_step-i-in-loop-i : goal.overflow_step-i-in-loop-i
overflow_step-i-in-loop-i c = omega arith

pub loop-i-smaller : goal.loop-i-smaller
loop-i-smaller c = omega arith

pub loop-i-preserved : goal.loop-i-preserved
loop-i-preserved c =
    let at = (segment_at c.args.segments c.in-Some.ix).pos in
    let p = c.struct_told-1.given.1.1.0.1 in (
      omega arith,
      c.loop-i.invariant.1,
      rw (back-16 at p) (filled_more _ _ _ (omega arith) c.loop-i.invariant.2 _ at c.in-Some.is refl (got w16 at p)),
    )

pub returns : goal.returns
returns c = stems-all _ _ _ _ (c.if-not-cjk.false) c.loop-i-test.false c.loop-i.invariant.2
