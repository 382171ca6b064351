-- `middle::wrapping_add` meets its contract: the bits' wrapped sum stands for it.
use Rattle.std.proofs.Common.{ℕ, ◌+◌, ◌%◌, sym, ap, ◌∙◌, w32, to_z, of_z, rules}
use Rattle.signed.proofs.Signed.{is, got}
use Rattle.signed.proofs.By.{by₂}
use Rattle.middle.proofs.Wrapping.{wrap-sum}
use Rattle.middle.proofs.wrapping_add.Goals as goal

pub returns : goal.returns
returns c =
    let s = c in
    let a = c.bits_of.ensures ∙ ap (of_z w32) (is s.ranges.a) in
    let b = c.bits_of-2.ensures ∙ ap (of_z w32) (is s.ranges.b) in
    let sum = by₂ (λ (x y : ℕ). (x + y) % 4294967296) c.wrapping_add_u32.ensures.value a b in
    is (got w32 c.signed_of.result c.signed_of.type_inv) ∙ c.signed_of.ensures ∙ ap (to_z w32) sum
    ∙ sym (wrap-sum s.args.a s.args.b s.ranges.a s.ranges.b)
