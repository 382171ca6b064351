-- `middle::compute_mid_delta` meets its contract: each call is a step of the definition.
use Rattle.std.proofs.Common.{ℤ, ◌-ℤ◌, ap, ◌∙◌, w16, w32, rules}
use lib.Signed.{shr_z}
use Rattle.signed.proofs.Signed.{is, got}
use Rattle.middle.specs.Middle.{wrap_z, mid_delta}
use Rattle.signed.proofs.By.{by₂}
use Rattle.middle.proofs.compute_mid_delta.Goals as goal

pub returns : goal.returns
unfolding mid_delta
returns c =
    let h = c in
    let w = h in
    let s = w.ranges in
    let difference = by₂ (λ (a b : ℤ). wrap_z w32 (a -ℤ b)) (is (got w32 w.wrapping_sub.result w.wrapping_sub.type_inv) ∙ w.wrapping_sub.ensures)
    (is s.max) (is s.min) in
    let half = is (got w32 h.half_down.result h.half_down.type_inv) ∙ h.half_down.ensures ∙ ap (λ (x : ℤ). shr_z x 2) difference in
    is (got w16 c.low_16.result c.low_16.type_inv) ∙ c.low_16.ensures ∙ ap (wrap_z w16) half
