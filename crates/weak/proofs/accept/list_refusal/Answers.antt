-- `weak::accept::list_refusal` meets its contract: the answers stand in their order.
use native.Mathlib.Omega.{arith}
use mathlib.Core.Path.{sym, ◌∙◌}
use mathlib.Core.Bool.{true, false}
use Rattle.weak.proofs.Refusals.{refused-long, refused-currents, refused-marks, ends-refuse}
use Rattle.weak.proofs.accept.list_refusal.Goals as goal

pub returns-then-originals-gt-MOST_POINTS : goal.returns-then-originals-gt-MOST_POINTS
returns-then-originals-gt-MOST_POINTS c = let a = c.args in sym (refused-long a.originals.now a.currents.now a.touched.now a.ends.now (omega arith))

pub returns-then-currents-originals : goal.returns-then-currents-originals
returns-then-currents-originals c = let a = c.args in
    sym (refused-currents a.originals.now a.currents.now a.touched.now a.ends.now (omega arith) c.if-currents-originals.true)

pub returns-then-touched-originals : goal.returns-then-touched-originals
returns-then-touched-originals c = let a = c.args in
    sym (refused-marks a.originals.now a.currents.now a.touched.now a.ends.now (omega arith) (omega arith) c.if-touched-originals.true)

pub returns-then-not-ends_hold : goal.returns-then-not-ends_hold
returns-then-not-ends_hold c = let a = c.args in
    sym
    (ends-refuse a.originals.now a.currents.now a.touched.now a.ends.now (omega arith) (omega arith) (omega arith) false
    (sym c.ends_hold.ensures ∙ c.if-not-ends_hold.true))

pub returns : goal.returns
returns c = let a = c.args in
    sym
    (ends-refuse a.originals.now a.currents.now a.touched.now a.ends.now (omega arith) (omega arith) (omega arith) true
    (sym c.ends_hold.ensures ∙ c.if-not-ends_hold.false))
