-- `link::thresholds::thresholds_of` meets its contract: the quotient is never too steep, and fits.
use native.Mathlib.Omega.{arith}
use mathlib.Core.Path.{◌≡◌, sym, ap, ◌∙◌}
use mathlib.Core.Bool.{true, false}
use Prim.Native.Nat.{ℕ}
use lib.IntN.{ℤ, pos}
use mir.Syntax.{w32}
use Rattle.signed.proofs.Signed.{is, got}
use Rattle.fixed.specs.Point.{derived}
use Rattle.fixed.specs.Divide.{quotient_of}
use Rattle.fixed.proofs.Quotients.{told-steep, told_of}
use Rattle.link.specs.Linking.{thresholds_of}
use Rattle.link.proofs.Numbers.{eight, em-between, scale-some, dist-gentle}
use Rattle.link.proofs.thresholds.thresholds_of.Goals as goal
use Rattle.link.proofs.thresholds.thresholds_of.Goals.{After-fixed_div-quotient}

pub derived_constant-len-requires : goal.derived_constant-len-requires
derived_constant-len-requires c =
    record {
      between = eight;
      between_2 = rw (is c.ranges.units_per_em) (em-between _ c.args.scale c.requires);
    }

pub fixed_div-quotient-requires : goal.fixed_div-quotient-requires
fixed_div-quotient-requires c = rw (is c.ranges.scale) (scale-some c.args.units_per_em _ c.requires)

-- what fixed divide answers
told : (c : After-fixed_div-quotient) → c.fixed_div-quotient.result ≡ quotient_of (pos 192) c.args.scale
told c = c.fixed_div-quotient.ensures ∙ ap (quotient_of (pos 192)) (is c.ranges.scale)

never : {A : Type 0} → true ≡ false → A
never e = absurd (let n : ◌≡◌ {A = ℕ} 0 1 = cc in omega arith)

pub returns-in_default : goal.returns-in_default
returns-in_default c =
    let d = c.before in
    let s = d.before.before in
    never (sym (told-steep _ _ (sym (told d) ∙ c.in_default.is)) ∙ dist-gentle s.args.units_per_em s.args.scale s.requires)

pub returns : goal.returns
unfolding thresholds_of
returns c =
    let d = c.before in
    let s = d.before.before in
    let l = d.derived_constant-len in
    let z = c.in-Some.dist in
    let t = told_of (pos 192) s.args.scale z (sym (told d) ∙ c.in-Some.is) in
    λ i. record {
      len = (is (got w32 l.result l.type_inv) ∙ l.ensures ∙ ap (λ (u : ℤ). derived u (pos 8)) (is s.ranges.units_per_em)) i;
      dist = (is (got w32 z c.in-Some.known_told-1-own.given.0.1) ∙ t.1) i;
    }
