-- `stems_cjk::stem::stem_of` meets its contract.
use mathlib.Core.Path.{◌≡◌}
use mathlib.Core.List.{List}
use native.Mathlib.Omega.{arith}
use lib.IntN.{ℤ, pos, ◌-ℤ◌}
use mir.Syntax.{w32}
use mir.Val.{SFits, to_z, of_z}
use Rattle.signed.specs.Range.{Between, I32}
use Rattle.signed.proofs.Signed.{fits, fits-in, is, got, ◌also◌, signed}
use Rattle.fixed.specs.declared.width.WidthRule.{WidthRule}
use Rattle.fixed.specs.Width.{fitted_width}
use Rattle.axis.specs.Limits.{most_units}
use Rattle.place.proofs.Reach.{units-read, width-range}
use Rattle.stems_cjk.specs.Cjk.{stem_of}
use Rattle.stems_cjk.proofs.stem.stem_of.Goals as goal

-- what the gap leaves of a pixel fits
left-fits : {z : ℤ} → I32 0 15 z → SFits w32 (pos 64 -ℤ to_z w32 (of_z w32 z))
left-fits {z} k = fits (omega (arith, signed))

pub overflow_sub-threshold : goal.overflow_sub-threshold
overflow_sub-threshold c = left-fits c.gap_of-threshold.ensures.1

-- the distance of two original positions fits
apart-fits : (o s : ℤ) → Between most_units most_units o → Between most_units most_units s → SFits w32 (to_z w32 (of_z w32 s) -ℤ to_z w32 (of_z w32 o))
apart-fits o s h g = let k = fits-in w32 h tt tt also fits-in w32 g tt tt in fits (omega (arith, signed))

pub overflow_sub-edge2 : goal.overflow_sub-edge2
overflow_sub-edge2 c = apart-fits _ _ c.requires.in_reach.0.opos c.requires.in_reach.1.opos

-- the fitted width
width_is : (rule : WidthRule) (xs : List ℤ) (o s r : ℤ)
    → Between most_units most_units o
    → Between most_units most_units s
    → r ≡ fitted_width rule xs (to_z w32 (of_z w32 (to_z w32 (of_z w32 s) -ℤ to_z w32 (of_z w32 o))))
    → r ≡ fitted_width rule xs (s -ℤ o)
width_is rule xs o s r h g e = rw (is (apart-fits o s h g), units-read s g, units-read o h) at e

pub stem_at-requires : goal.stem_at-requires
stem_at-requires c =
    let o = c.requires.in_reach.0.opos in
    let s = c.requires.in_reach.1.opos in
    let e = width_is c.args.rule c.args.standards.now _ _ _ o s c.stem_width-width.ensures in
    let h = width-range c.args.rule c.args.standards.now _ _ o s in
    let d : SFits w32 (pos 64 -ℤ to_z w32 (of_z w32 c.gap_of-threshold.result)) = left-fits c.gap_of-threshold.ensures.1 in
    let k = got w32 c.stem_width-width.result c.stem_width-width.type_inv also c.gap_of-threshold.ensures.1 in
    rw (units-read _ o, units-read _ s) (o, s, omega (arith, signed), omega (arith, signed), omega (arith, signed))

pub returns : goal.returns
unfolding stem_of
returns c =
    let o = c.requires.in_reach.0.opos in
    let s = c.requires.in_reach.1.opos in
    let k = c.gap_of-threshold.ensures.1 in
    let d : SFits w32 (pos 64 -ℤ to_z w32 (of_z w32 c.gap_of-threshold.result)) = left-fits k in
    let g = rw c.both_round-round.ensures at c.gap_of-threshold.ensures.0 in
    let t = rw (is d, is k.fits, g) at c.stem_at.ensures in
    let w = width_is c.args.rule c.args.standards.now _ _ _ o s c.stem_width-width.ensures in
    let u = rw (is (got w32 c.stem_width-width.result c.stem_width-width.type_inv), w) at t in
    rw (units-read _ o, units-read _ s, is c.ranges.delta) at u
