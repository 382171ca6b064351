-- `weak::accept::range_refusal` meets its contract: the answers stand in their order.
use mathlib.Core.Path.{◌≡◌, sym, ap, ◌∙◌}
use mathlib.Core.Bool.{true, false}
use mathlib.Core.List.{List}
use lib.IntN.{ℤ, nat_abs}
use mir.Syntax.{w32}
use mir.Val.{to_z, of_z}
use Rattle.signed.proofs.Signed.{is}
use Rattle.weak.specs.Weak.{coordinates_hold}
use Rattle.weak.proofs.Refusals.{refused-originals, currents-refuse}
use Rattle.weak.proofs.accept.range_refusal.Goals as goal

pub returns-then-not-coordinates_hold : goal.returns-then-not-coordinates_hold
returns-then-not-coordinates_hold c =
    let limit_is : (l : List ℤ) → coordinates_hold (nat_abs c.args.most) l ≡ coordinates_hold (nat_abs (to_z w32 (of_z w32 c.args.most))) l = λ l. ap (λ (z : ℤ). coordinates_hold (nat_abs z) l) (sym (is c.ranges.most)) in
    let a = c.args in
    sym
    (refused-originals (nat_abs a.most) a.originals.now a.currents.now
    (limit_is a.originals.now ∙ sym c.coordinates_hold.ensures ∙ c.if-not-coordinates_hold.true))

pub returns-then-not-coordinates_hold-2 : goal.returns-then-not-coordinates_hold-2
returns-then-not-coordinates_hold-2 c =
    let limit_is : (l : List ℤ) → coordinates_hold (nat_abs c.args.most) l ≡ coordinates_hold (nat_abs (to_z w32 (of_z w32 c.args.most))) l = λ l. ap (λ (z : ℤ). coordinates_hold (nat_abs z) l) (sym (is c.ranges.most)) in
    sym
    (currents-refuse (nat_abs c.args.most) c.args.originals.now c.args.currents.now false
    (limit_is c.args.originals.now ∙ sym c.coordinates_hold.ensures ∙ c.if-not-coordinates_hold.false)
    (limit_is c.args.currents.now ∙ sym c.coordinates_hold-2.ensures ∙ c.if-not-coordinates_hold-2.true))

pub returns : goal.returns
returns c =
    let limit_is : (l : List ℤ) → coordinates_hold (nat_abs c.args.most) l ≡ coordinates_hold (nat_abs (to_z w32 (of_z w32 c.args.most))) l = λ l. ap (λ (z : ℤ). coordinates_hold (nat_abs z) l) (sym (is c.ranges.most)) in
    sym
    (currents-refuse (nat_abs c.args.most) c.args.originals.now c.args.currents.now true
    (limit_is c.args.originals.now ∙ sym c.coordinates_hold.ensures ∙ c.if-not-coordinates_hold.false)
    (limit_is c.args.currents.now ∙ sym c.coordinates_hold-2.ensures ∙ c.if-not-coordinates_hold-2.false))
