-- `log_frame::write::put_head` meets its contract: three bytes, one behind the other.
use native.Mathlib.Omega.{arith}
use mathlib.Core.Path.{refl}
use mathlib.Core.List.{◌∷◌, []}
use Rattle.log_digits.proofs.Writing.{written_then}
use Rattle.log_frame.specs.Frame.{kind_byte}
use Rattle.log_frame.proofs.write.put_head.Goals as goal

pub returns : goal.returns
returns c = let line = c.args.line.now in
    let two = written_then line 0 1 (kind_byte ∷ []) (c.args.points ∷ []) refl (omega (arith, c.requires)) c.put_byte.ensures
    c.put_byte-2.ensures in
    written_then line 0 2 (kind_byte ∷ c.args.points ∷ []) (c.args.contours ∷ []) refl (omega (arith, c.requires)) two c.put_byte-3.ensures
