-- `weak::reach::coordinates_hold` meets its contract. The invariant: the list holds where what was tested and what is left of it do.
use native.Mathlib.Omega.{arith}
use mathlib.Core.Path.{◌≡◌, sym, ap, ◌∙◌}
use Prim.Native.Nat.{ℕ}
use mir.Syntax.{w32}
use mir.Val.{to_z, of_z}
use lib.IntN.{ℤ, nat_abs}
use Rattle.signed.proofs.Signed.{is, got}
use Rattle.weak_contour.specs.Contour.{at}
use Rattle.weak.specs.Weak.{coordinate_holds, coordinates_hold}
use Rattle.weak.proofs.Refusals.{coordinates-next, coordinates-end}
use Rattle.weak.proofs.reach.coordinates_hold.Goals as goal

pub loop-x-preserved : goal.loop-x-preserved
loop-x-preserved c =
    let limit : ℕ = nat_abs (to_z w32 (of_z w32 c.args.most)) in
    let told : c.coordinate_holds-holds.result
    ≡ coordinate_holds limit (at c.args.list.now c.loop-x.x-index) = c.coordinate_holds-holds.ensures ∙ ap (coordinate_holds limit)
    (is (got w32 (at c.args.list.now c.loop-x.x-index) c.coordinate_holds-arg-1.given)) in
    c.loop-x.invariant ∙ coordinates-next limit c.args.list.now c.loop-x.x-index c.loop-x.all c.coordinate_holds-holds.result
    (omega arith) told

pub returns : goal.returns
returns c = sym (ap (λ (z : ℤ). coordinates_hold (nat_abs z) c.args.list.now) (sym (is c.ranges.most)) ∙ c.loop-x.invariant
    ∙ coordinates-end (nat_abs (to_z w32 (of_z w32 c.args.most)))
    c.args.list.now c.loop-x.x-index c.loop-x.all (omega arith))
