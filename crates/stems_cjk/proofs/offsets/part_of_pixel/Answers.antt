-- `stems_cjk::offsets::part_of_pixel` meets its contract.
use native.Mathlib.Omega.{arith}
use lib.IntN.{pos}
use Rattle.signed.proofs.Signed.{is, i32, exactly, one-zero, fits-quot, fits-rem, back_fits, signed}
use Rattle.stems_cjk.proofs.offsets.part_of_pixel.Goals as goal

pub nonzero_rem-result : goal.nonzero_rem-result
nonzero_rem-result c = (omega arith, fits-quot _ 64 (back_fits c.ranges.cur_len) tt)

pub returns : goal.returns
returns c =
    let k = fits-rem _ (pos 64) (back_fits c.ranges.cur_len) in
    (rw (is k, is c.ranges.cur_len), i32 (omega (arith, signed, exactly c.ranges.cur_len, one-zero c.args.cur_len)) tt tt)
