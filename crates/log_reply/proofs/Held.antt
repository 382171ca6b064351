-- The reply to a line depends on its first 3,067 bytes: a line that is longer than every frame is not one, and neither is what is held of it.
use mathlib.Core.Path.{◌≡◌, refl, ap, ◌∙◌}
use mathlib.Core.Bool.{Bool, true, false, ◌&&◌}
use mathlib.Core.List.{List}
use Prim.Native.Nat.{ℕ, ◌<◌}
use native.Mathlib.Omega.{arith}
use borrow.Author.Tests.{leb-true, leb-false, ne_eqb}
use lib.Dec.{leb, eqb}
use lib.ListN.{length, take, length-take}
use lib.Seq.{take_all}
use Rattle.log_digits.specs.Digits.{all_digits, digits_for, byte_at}
use Rattle.log_digits.proofs.Lines.{byte_small}
use Rattle.log_frame.specs.Limits.{frame_size, most_digits}
use Rattle.log_frame.specs.Frame.{kind_byte, good_line, points_in, contours_in}
use Rattle.log_reply.specs.Reply.{line_bytes, reply}

and-false : (x : Bool) → (x && false) ≡ false
and-false true = refl
and-false false = refl

-- a line that is longer than every frame is not good
long-bad : (line : List ℕ) → most_digits < length line → good_line line ≡ false
unfolding good_line
long-bad line h =
    ap (λ (b : Bool). all_digits line && (b && eqb (byte_at line 0) kind_byte))
    (ne_eqb (length line) (digits_for (frame_size (points_in line) (contours_in line))) (λ e. omega (arith, e, h, byte_small line 1, byte_small line 2)))
    ∙ and-false (all_digits line)

-- and its reply is that of its beginning
pub reply-held : (line : List ℕ) (ended : Bool) (n : ℕ) → most_digits < n → reply (take n line) ended ≡ reply line ended
unfolding reply line_bytes
reply-held line ended n h = go (leb (length line) n) refl
  where
    go : (b : Bool) → leb (length line) n ≡ b → reply (take n line) ended ≡ reply line ended
    go true e = ap (λ (l : List ℕ). reply l ended) (take_all n line (leb-true (length line) n e))
    go false e =
        let k = leb-false (length line) n e in
        rw (long-bad (take n line) (omega (arith, length-take n line)), long-bad line (omega arith), and-false ended)
