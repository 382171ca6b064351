-- `weak::reach::is_calm` meets its contract.
use native.Mathlib.Omega.{arith}
use mathlib.Core.Path.{◌≡◌, refl, sym, ap, subst, ◌∙◌}
use lib.IntN.{ℤ, pos, ◌-ℤ◌}
use lib.Signed.{lt_z}
use mir.Syntax.{w32, w64}
use mir.Val.{SFits, to_z, of_z}
use Rattle.signed.proofs.Signed.{signed, fits, got, is, range}
use Rattle.signed.proofs.By.{by₂}
use Rattle.weak.specs.Steps.{least_far}
use Rattle.weak.proofs.reach.is_calm.Goals as goal

pub overflow_cast-result : goal.overflow_cast-result
overflow_cast-result c =
    let most-fits : SFits w32 c.args.reach.most = got w32 _ c.struct_told-1.given.1.0.1 in
    subst (SFits w64) (sym (is most-fits)) (fits (omega (arith, signed, range most-fits)))

pub overflow_cast-result-2 : goal.overflow_cast-result-2
overflow_cast-result-2 c =
    let least_fits : SFits w32 c.args.reach.least = got w32 _ c.struct_told-2-1.given.0.1 in
    subst (SFits w64) (sym (is least_fits)) (fits (omega (arith, signed, range least_fits)))

pub overflow_sub-result : goal.overflow_sub-result
overflow_sub-result c =
    let most-fits : SFits w32 c.args.reach.most = got w32 _ c.struct_told-1.given.1.0.1 in
    let least_fits : SFits w32 c.args.reach.least = got w32 _ c.struct_told-2-1.given.0.1 in
    let most-wide : SFits w64 (to_z w32 (of_z w32 c.args.reach.most)) = subst (SFits w64) (sym (is most-fits)) (fits (omega (arith, signed, range most-fits))) in
    let least-wide : SFits w64 (to_z w32 (of_z w32 c.args.reach.least)) = subst (SFits w64) (sym (is least_fits)) (fits (omega (arith, signed, range least_fits))) in
    let apart : (to_z w64 (of_z w64 (to_z w32 (of_z w32 c.args.reach.most))) -ℤ to_z w64
    (of_z w64 (to_z w32 (of_z w32 c.args.reach.least))))
    ≡ (c.args.reach.most -ℤ c.args.reach.least) = by₂ ◌-ℤ◌ refl (is most-wide ∙ is most-fits) (is least-wide ∙ is least_fits) in
    subst (SFits w64) (sym apart) (fits (omega (arith, signed, range most-fits, range least_fits)))

pub returns : goal.returns
returns c =
    let most-fits : SFits w32 c.args.reach.most = got w32 _ c.struct_told-1.given.1.0.1 in
    let least_fits : SFits w32 c.args.reach.least = got w32 _ c.struct_told-2-1.given.0.1 in
    let most-wide : SFits w64 (to_z w32 (of_z w32 c.args.reach.most)) = subst (SFits w64) (sym (is most-fits)) (fits (omega (arith, signed, range most-fits))) in
    let least-wide : SFits w64 (to_z w32 (of_z w32 c.args.reach.least)) = subst (SFits w64) (sym (is least_fits)) (fits (omega (arith, signed, range least_fits))) in
    let apart : (to_z w64 (of_z w64 (to_z w32 (of_z w32 c.args.reach.most))) -ℤ to_z w64
    (of_z w64 (to_z w32 (of_z w32 c.args.reach.least))))
    ≡ (c.args.reach.most -ℤ c.args.reach.least) = by₂ ◌-ℤ◌ refl (is most-wide ∙ is most-fits) (is least-wide ∙ is least_fits) in
    let sub-fits : SFits w64 (to_z w64 (of_z w64 (to_z w32 (of_z w32 c.args.reach.most))) -ℤ to_z w64 (of_z w64 (to_z w32 (of_z w32 c.args.reach.least)))) = subst (SFits w64) (sym apart) (fits (omega (arith, signed, range most-fits, range least_fits))) in
    ap (λ (z : ℤ). lt_z z (pos least_far)) (is sub-fits ∙ apart)
