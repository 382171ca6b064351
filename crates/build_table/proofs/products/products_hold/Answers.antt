-- `build_table::products::products_hold` meets its contract.
use mathlib.Core.Path.{◌≡◌, sym, ◌∙◌}
use mathlib.Core.Bool.{true}
use Prim.Native.Nat.{ℕ, ◌≤◌, ◌-◌, min}
use native.Mathlib.Omega.{arith}
use mir.Syntax.{w32}
use mir.Val.{to_z}
use Rattle.signed.proofs.Signed.{is}
use borrow.Author.Rules.{rules}
use borrow.Author.Tests.{not-true, not-false}
use Rattle.axis.specs.Limits.{most_segments}
use Rattle.axis.specs.Segment.{segment_at}
use Rattle.axis.specs.Refusals.{every}
use Rattle.build.specs.Building.{scaled_holds, products_hold}
use Rattle.axis.proofs.Tests.{every-none, every_more, every-fails, every-done}
use Rattle.build_table.proofs.products.products_hold.Goals as goal

pub loop-i-init : goal.loop-i-init
loop-i-init c = (omega arith, c.min-n.ensures, every-none _)

pub offset_bounds-segments-i : goal.offset_bounds-segments-i
offset_bounds-segments-i c = omega arith

pub bounds-segments-i : goal.bounds-segments-i
bounds-segments-i c = omega arith

pub returns-then-not-scaled_holds : goal.returns-then-not-scaled_holds
unfolding products_hold
returns-then-not-scaled_holds c =
    let start = c in
    let e = rw (is start.ranges.scale) at c.scaled_holds.ensures in
    sym (every-fails (λ (k : ℕ). scaled_holds start.args.scale (segment_at start.args.segments k)) _ _ (omega arith) (sym e ∙ c.if-not-scaled_holds.true))

pub overflow_step-i : goal.overflow_step-i
overflow_step-i c = omega arith

pub loop-i-smaller : goal.loop-i-smaller
loop-i-smaller c = omega arith

pub loop-i-preserved : goal.loop-i-preserved
loop-i-preserved c =
    let o = c.loop-i in
    (omega arith, o.invariant.1, every_more _ _ o.invariant.2 (sym c.scaled_holds.ensures ∙ c.if-not-scaled_holds.false))

pub returns : goal.returns
unfolding products_hold
returns c =
    let start = c in
    let o = c.loop-i.invariant in
    let e = rw (is start.ranges.scale) at o.2 in
    every-done (λ (k : ℕ). scaled_holds start.args.scale (segment_at start.args.segments k)) _ _ _ o.0 (omega arith) o.1 e
