-- `log_frame::good::good_line` meets its contract.
use native.Mathlib.Omega.{arith}
use mathlib.Core.Path.{◌≡◌}
use Prim.Native.Nat.{ℕ}
use Rattle.signed.proofs.By.{by₂}
use Rattle.log_frame.specs.Limits.{frame_size}
use Rattle.log_frame.specs.Frame.{points_in, contours_in}
use Rattle.log_frame.proofs.Tested.{good-short, good-size, good-kind, good-digits, few-points-in, few-contours-in}
use Rattle.log_frame.proofs.good.good_line.Goals as goal

pub returns-then-line : goal.returns-then-line
returns-then-line c = good-short _ (omega arith)

pub frame_size-requires : goal.frame_size-requires
frame_size-requires c = let line = c.args.line.now in
    (omega (arith, c.points_in.ensures, few-points-in line), omega (arith, c.contours_in.ensures, few-contours-in line))

pub overflow_mul-frame_size : goal.overflow_mul-frame_size
overflow_mul-frame_size c =
    let sized : c.frame_size.result ≡ frame_size (points_in c.args.line.now) (contours_in c.args.line.now) = by₂ (λ (n k : ℕ). frame_size n k) c.frame_size.ensures c.points_in.ensures c.contours_in.ensures in
    let line = c.args.line.now in omega (arith, sized, few-points-in line, few-contours-in line)

pub returns-then-line-frame_size : goal.returns-then-line-frame_size
returns-then-line-frame_size c =
    let sized : c.frame_size.result ≡ frame_size (points_in c.args.line.now) (contours_in c.args.line.now) = by₂ (λ (n k : ℕ). frame_size n k) c.frame_size.ensures c.points_in.ensures c.contours_in.ensures in
    good-size c.args.line.now c.frame_size.result sized c.if-line-frame_size.true

pub returns-then-byte_at-ne-KIND_BYTE : goal.returns-then-byte_at-ne-KIND_BYTE
returns-then-byte_at-ne-KIND_BYTE c =
    let sized : c.frame_size.result ≡ frame_size (points_in c.args.line.now) (contours_in c.args.line.now) = by₂ (λ (n k : ℕ). frame_size n k) c.frame_size.ensures c.points_in.ensures c.contours_in.ensures in
    good-kind c.args.line.now c.frame_size.result sized (omega arith) c.byte_at.result c.byte_at.ensures
    c.if-byte_at-ne-KIND_BYTE.true

pub returns : goal.returns
returns c =
    let sized : c.frame_size.result ≡ frame_size (points_in c.args.line.now) (contours_in c.args.line.now) = by₂ (λ (n k : ℕ). frame_size n k) c.frame_size.ensures c.points_in.ensures c.contours_in.ensures in
    good-digits c.args.line.now c.frame_size.result sized (omega arith) c.byte_at.result c.all_digits.result c.byte_at.ensures
    (omega arith) c.all_digits.ensures
