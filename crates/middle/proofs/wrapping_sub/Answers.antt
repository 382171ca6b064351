-- `middle::wrapping_sub` meets its contract: the bits' wrapped difference stands for it.
use Rattle.std.proofs.Common.{◌≡◌, ◌+◌, ◌%◌, sym, ap, ◌∙◌, arith, w32, of_z, rules}
use Rattle.signed.proofs.Signed.{is, got}
use Rattle.middle.proofs.Wrapping.{wrap-difference}
use Rattle.middle.proofs.wrapping_sub.Goals as goal

pub returns : goal.returns
returns c =
    let s = c in
    let a = c.bits_of.ensures ∙ ap (of_z w32) (is s.ranges.a) in
    let b = c.bits_of-2.ensures ∙ ap (of_z w32) (is s.ranges.b) in
    let r = c.wrapping_sub_u32 in
    let sum : (r.result + of_z w32 s.args.b) % 4294967296 ≡ of_z w32 s.args.a = omega
    (arith, r.ensures, a, b) in
    is (got w32 c.signed_of.result c.signed_of.type_inv) ∙ c.signed_of.ensures
    ∙ sym (wrap-difference s.args.a s.args.b r.result s.ranges.a s.ranges.b r.type_inv sum)
