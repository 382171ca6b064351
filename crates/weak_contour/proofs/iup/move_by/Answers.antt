-- `weak_contour::iup::move_by` meets its contract. The invariant: the points passed are moved.
use native.Mathlib.Omega.{arith}
use mathlib.Core.Path.{◌≡◌, refl}
use lib.IntN.{ℤ, ◌+ℤ◌}
use mir.Syntax.{w32}
use mir.Val.{SFits}
use Rattle.signed.proofs.Signed.{signed, fits, is, got, ◌also◌}
use Rattle.weak_contour.specs.Contour.{at}
use Rattle.weak_contour.specs.Steps.{moved_by}
use Rattle.signed.proofs.By.{by₂}
use Rattle.weak_contour.proofs.Writing.{wrote-more}
use Rattle.weak_contour.proofs.iup.move_by.Goals as goal

pub overflow_add-currents : goal.overflow_add-currents
overflow_add-currents c =
    let original : ℤ = at c.args.originals.now c.loop-i.i in
    let whole : SFits w32 original = got w32 original c.v-1.given in
    let k = whole also c.ranges.delta in
    fits (omega (arith, signed, c.requires.coordinates.0 c.loop-i.i, c.requires.coordinates.1))

pub loop-i-preserved : goal.loop-i-preserved
unfolding moved_by
loop-i-preserved c =
    let original : ℤ = at c.args.originals.now c.loop-i.i in
    let whole : SFits w32 original = got w32 original c.v-1.given in
    let l = c.loop-i in
    wrote-more _ _ _ _ _ _ (omega arith) (omega arith) l.invariant (by₂ ◌+ℤ◌ (is (overflow_add-currents c)) (is whole) refl)

pub returns : goal.returns
returns c = let e : c.loop-i.i ≡ c.args.to = omega arith in
    rw (is c.ranges.delta, e) at c.loop-i.invariant
