-- `stems_cjk::offsets::pixel_offset` meets its contract.
use mathlib.Core.Path.{◌≡◌}
use native.Mathlib.Omega.{arith}
use mir.Syntax.{w32}
use Rattle.signed.proofs.Signed.{fits, is, got, i32, signed}
use Rattle.fixed.specs.Pixel.{pix_floor}
use Rattle.fixed.proofs.Pixels.{floor-law}
use Rattle.stems_cjk.specs.Cjk.{pixel_offset}
use borrow.Author.Rules.{rules}
use Rattle.stems_cjk.proofs.offsets.pixel_offset.Goals as goal
use Rattle.stems_cjk.proofs.offsets.pixel_offset.Goals.{After-pix_floor}

-- the pixel edge below
floor-is : (c : After-pix_floor) → c.pix_floor.result ≡ pix_floor c.args.pos
floor-is c = rw (is c.ranges.pos) at c.pix_floor.ensures

pub overflow_sub-result : goal.overflow_sub-result
overflow_sub-result c =
    let e = floor-is c in
    let k = got w32 c.pix_floor.result c.pix_floor.type_inv in
    fits (omega (arith, signed, floor-law c.args.pos))

pub returns : goal.returns
unfolding pixel_offset
returns c =
    let e = floor-is c in
    let k = got w32 c.pix_floor.result c.pix_floor.type_inv in
    let d = overflow_sub-result c in
    (rw (is (overflow_sub-result c), is c.ranges.pos, is k, e), i32 (omega (arith, signed, floor-law c.args.pos)) tt tt)
