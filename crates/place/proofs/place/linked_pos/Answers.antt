-- `place::place::linked_pos` meets its contract.
use mathlib.Core.Path.{◌≡◌, ap, ◌∙◌}
use native.Mathlib.Omega.{arith}
use lib.IntN.{◌+ℤ◌, ◌-ℤ◌}
use mir.Syntax.{w32}
use Rattle.signed.proofs.Signed.{fits, is, got, signed}
use Rattle.fixed.specs.Width.{fitted_width}
use Rattle.place.specs.Placing.{linked_pos}
use Rattle.place.proofs.Reach.{width-range}
use borrow.Author.Rules.{rules}
use Rattle.place.proofs.place.linked_pos.Goals as goal
use Rattle.place.proofs.place.linked_pos.Goals.{After-stem_width-fitted_width}

pub overflow_sub-stem_opos : goal.overflow_sub-stem_opos
overflow_sub-stem_opos c = fits (omega (arith, signed))

-- the fitted width, in terms of the original positions
width_is : (c : After-stem_width-fitted_width) → c.stem_width-fitted_width.result
    ≡ fitted_width c.args.rule c.args.standards.now (c.args.stem_opos -ℤ c.args.base_opos)
width_is c =
    let s = c.before in
    c.stem_width-fitted_width.ensures
    ∙ ap (fitted_width s.args.rule s.args.standards.now) (is (overflow_sub-stem_opos s) ∙ λ i. is s.ranges.stem_opos i -ℤ is s.ranges.base_opos i)

pub overflow_add-result : goal.overflow_add-result
overflow_add-result c =
    let s = c.before in
    let e = width_is c in
    let h = width-range s.args.rule s.args.standards.now _ _ s.requires.between.1 s.requires.between.2 in
    let k = got w32 c.stem_width-fitted_width.result c.stem_width-fitted_width.type_inv in
    fits (omega (arith, signed))

pub returns : goal.returns
unfolding linked_pos
returns c = is (overflow_add-result c) ∙ λ i. is c.ranges.base_pos i +ℤ (is (got w32 c.stem_width-fitted_width.result c.stem_width-fitted_width.type_inv) ∙ width_is c) i
