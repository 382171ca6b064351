-- `log_frame::write::put_point` meets its contract: a mark and two numbers, one behind the other.
use native.Mathlib.Omega.{arith}
use mathlib.Core.Path.{refl, ap, ◌∙◌}
use mathlib.Core.List.{◌∷◌, []}
use Prim.Native.Nat.{◌+◌}
use lib.IntN.{ℤ}
use Rattle.signed.proofs.Signed.{is}
use Rattle.log_digits.specs.Digits.{written, high_of, low_of}
use Rattle.log_digits.proofs.Writing.{written_then}
use Rattle.log_frame.proofs.write.put_point.Goals as goal

pub returns : goal.returns
returns c = let a = c.args in
    let line = a.line.now in
    let two = written_then line a.at (a.at + 1) (a.mark ∷ []) (high_of a.original ∷ low_of a.original ∷ []) refl (omega (arith, c.requires.0))
    c.put_byte.ensures
    (c.put_number.ensures ∙ ap (λ (z : ℤ). written c.put_byte.new.line (a.at + 1) (high_of z ∷ low_of z ∷ [])) (is c.ranges.original)) in
    written_then line a.at (a.at + 3) (a.mark ∷ high_of a.original ∷ low_of a.original ∷ []) (high_of a.current ∷ low_of a.current ∷ []) refl
    (omega (arith, c.requires.0)) two
    (c.put_number-2.ensures ∙ ap (λ (z : ℤ). written c.put_number.new.line (a.at + 3) (high_of z ∷ low_of z ∷ [])) (is c.ranges.current))
