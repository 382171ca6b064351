-- `fixed_ratio::ratio::rounded_ratio` meets its contract: the rounded quotient of the magnitudes, with the sign of the two.
use borrow.Author.Rules.{rules}
use native.Mathlib.Omega.{arith}
use mathlib.Core.Path.{◌≡◌, sym, ap, ◌∙◌}
use lib.IntN.{nat_abs}
use mir.Syntax.{w64}
use Rattle.signed.proofs.Signed.{is, got, abs-of}
use Rattle.signed.proofs.By.{by₃}
use Rattle.fixed.specs.Point.{rounded}
use Rattle.fixed.specs.Steps.{signed_like}
use Rattle.fixed.proofs.Rounding.{rounded-at-most}
use Rattle.fixed_ratio.proofs.Products.{ratio-sign}
use Rattle.fixed_ratio.proofs.ratio.rounded_ratio.Goals as goal
use Rattle.fixed_ratio.proofs.ratio.rounded_ratio.Goals.{After-magnitude, After-magnitude-2, After-rounded_quotient, Start}

n-is : (c : After-magnitude) → c.magnitude.result ≡ nat_abs c.args.n
n-is c = c.magnitude.ensures ∙ ap nat_abs (is c.ranges.n)

d-is : (c : After-magnitude-2) → c.magnitude-2.result ≡ nat_abs c.args.d
d-is c = c.magnitude-2.ensures ∙ ap nat_abs (is c.ranges.d)

pub rounded_quotient-requires : goal.rounded_quotient-requires
rounded_quotient-requires c =
    let s = c.before.before in
    omega (arith, n-is c.before, d-is c, abs-of s.requires.0, abs-of s.requires.1, s.requires.2)

abbrev start : After-rounded_quotient → Start
start c = c.before.before.before

-- the magnitude of the answer
quotient_is : (c : After-rounded_quotient) → c.rounded_quotient.result ≡ rounded (nat_abs (start c).args.n) (nat_abs (start c).args.d)
quotient_is c = c.rounded_quotient.ensures ∙ λ i. rounded (n-is c.before.before i) (d-is c.before i)

pub with_sign-requires : goal.with_sign-requires
with_sign-requires c =
    let s = start c in
    omega (arith, quotient_is c, rounded-at-most (nat_abs s.args.n) (nat_abs s.args.d) s.requires.2, abs-of s.requires.0)

pub returns : goal.returns
returns c =
    let s = start c.before in
    is (got w64 c.with_sign.result c.with_sign.type_inv)
    ∙ by₃ signed_like c.with_sign.ensures (quotient_is c.before) (is s.ranges.n) (is s.ranges.d) ∙ sym (ratio-sign s.args.n s.args.d)
