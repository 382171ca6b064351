-- Places in pixels: 64 units make a pixel.
use Rattle.std.specs.Prelude.{ℤ, pos, ◌+ℤ◌}
use Rattle.path_places.specs.Exact.{over}
use Rattle.path_places.specs.declared.PixelPoint.{PixelPoint}

-- the place (x, y), given in units
abbrev pub point_at : ℤ → ℤ → PixelPoint
point_at x y = record { x = over x 6; y = over y 6 }

-- the place halfway between (x, y) and (u, v)
abbrev pub halfway_at : ℤ → ℤ → ℤ → ℤ → PixelPoint
halfway_at x y u v = record { x = over (x +ℤ u) 7; y = over (y +ℤ v) 7 }

-- (0, 0)
abbrev pub origin : PixelPoint
origin = point_at (pos 0) (pos 0)
