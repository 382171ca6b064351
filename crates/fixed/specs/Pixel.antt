-- Pixel floor and pixel round, in units of which 64 make a pixel.
use Rattle.std.specs.Prelude.{ℤ, pos, ◌+ℤ◌, ◌*ℤ◌}
use Rattle.std.specs.Int.Signed.{shr_z}

-- pixel floor: the largest multiple of 64 not above z, 64 times z / 64 rounded down
unfoldable pub pix_floor : ℤ → ℤ
pix_floor z = shr_z z 64 *ℤ pos 64

-- pixel round: pixel floor of z + 32
unfoldable pub pix_round : ℤ → ℤ
pix_round z = pix_floor (z +ℤ pos 32)
