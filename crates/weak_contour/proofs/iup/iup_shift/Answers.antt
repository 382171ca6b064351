-- `weak_contour::iup::iup_shift` meets its contract.
use native.Mathlib.Omega.{arith}
use mathlib.Core.Path.{◌≡◌, sym, ap, subst, ◌∙◌}
use lib.IntN.{ℤ, ◌-ℤ◌}
use mir.Syntax.{w32}
use mir.Val.{to_z, of_z, SFits}
use Rattle.signed.specs.Range.{Between}
use Rattle.signed.proofs.Signed.{signed, fits, is, fits-in, sub-law, ◌also◌}
use Rattle.weak_contour.specs.Limits.{most_delta}
use Rattle.weak_contour.specs.Contour.{at}
use Rattle.signed.proofs.By.{by₂}
use Rattle.weak_contour.proofs.Shifts.{shifted-still, shifted-moved}
use Rattle.weak_contour.proofs.iup.iup_shift.Goals as goal

pub returns-then-u-v : goal.returns-then-u-v
returns-then-u-v c =
    let current-fits : SFits w32 (at c.args.currents.now c.args.p) = fits-in w32 c.requires.coordinates.1 tt tt in
    let original-fits : SFits w32 (at c.args.originals.now c.args.p) = fits-in w32 (c.requires.coordinates.0 c.args.p) tt tt in
    shifted-still _ _ _ _ _ (sym (is current-fits) ∙ ap (to_z w32) c.if-u-v.true ∙ is original-fits)

pub overflow_sub-u : goal.overflow_sub-u
overflow_sub-u c =
    let current : ℤ = at c.args.currents.now c.args.p in
    let original : ℤ = at c.args.originals.now c.args.p in
    let current-fits : SFits w32 current = fits-in w32 c.requires.coordinates.1 tt tt in
    let original-fits : SFits w32 original = fits-in w32 (c.requires.coordinates.0 c.args.p) tt tt in
    let delta-fits : SFits w32 (to_z w32 (of_z w32 current) -ℤ to_z w32 (of_z w32 original)) = let k = current-fits also original-fits in fits (omega (arith, signed, c.requires.coordinates.0 c.args.p, c.requires.coordinates.1)) in
    delta-fits

pub move_by-requires : goal.move_by-requires
move_by-requires c =
    let current : ℤ = at c.args.currents.now c.args.p in
    let original : ℤ = at c.args.originals.now c.args.p in
    let current-fits : SFits w32 current = fits-in w32 c.requires.coordinates.1 tt tt in
    let original-fits : SFits w32 original = fits-in w32 (c.requires.coordinates.0 c.args.p) tt tt in
    let delta-fits : SFits w32 (to_z w32 (of_z w32 current) -ℤ to_z w32 (of_z w32 original)) = let k = current-fits also original-fits in fits (omega (arith, signed, c.requires.coordinates.0 c.args.p, c.requires.coordinates.1)) in
    let delta-is : to_z w32 (of_z w32 (to_z w32 (of_z w32 current) -ℤ to_z w32 (of_z w32 original))) ≡ current -ℤ original = by₂ ◌-ℤ◌ (is delta-fits) (is current-fits) (is original-fits) in
    let delta-small : Between most_delta most_delta (current -ℤ original) = omega (arith, c.requires.coordinates.0 c.args.p, c.requires.coordinates.1, sub-law current original) in
    record {
      currents_len = (c.requires.currents_len.0, c.requires.currents_len.1, c.requires.currents_len.2);
      coordinates = (c.requires.coordinates.0, subst (Between most_delta most_delta) (sym delta-is) delta-small);
    }

pub returns : goal.returns
returns c =
    let current : ℤ = at c.args.currents.now c.args.p in
    let original : ℤ = at c.args.originals.now c.args.p in
    let current-fits : SFits w32 current = fits-in w32 c.requires.coordinates.1 tt tt in
    let original-fits : SFits w32 original = fits-in w32 (c.requires.coordinates.0 c.args.p) tt tt in
    let delta-fits : SFits w32 (to_z w32 (of_z w32 current) -ℤ to_z w32 (of_z w32 original)) = let k = current-fits also original-fits in fits (omega (arith, signed, c.requires.coordinates.0 c.args.p, c.requires.coordinates.1)) in
    let delta-is : to_z w32 (of_z w32 (to_z w32 (of_z w32 current) -ℤ to_z w32 (of_z w32 original))) ≡ current -ℤ original = by₂ ◌-ℤ◌ (is delta-fits) (is current-fits) (is original-fits) in
    shifted-moved _ _ _ _ _ _ (λ e. c.if-u-v.false (ap (of_z w32) e)) (rw delta-is at c.move_by.ensures)
