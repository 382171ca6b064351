-- The Latin stem (document 01, module 5): where its edges come to lie beside an anchor, and where its first edge does without one.
use Rattle.std.specs.Prelude.{cond, ℕ, ◌+◌, ltb, ℤ, pos, ◌+ℤ◌, ◌-ℤ◌}
use Rattle.std.specs.Int.Signed.{lt_z, le_z, quot_z, shr_z}
use Rattle.signed.specs.Distance.{distance}
use Rattle.fixed.specs.Pixel.{pix_round}
use Rattle.axis.specs.Limits.{most_units}
pub use Rattle.place.specs.Steps.{most_length, most_width}

-- ---- what the numbers of a stem can be
-- the start that an anchor's shift gives it: an anchor within reach, and the distance of two original positions
abbrev pub most_start : ℕ
most_start = 68000000

-- its centre, at most half a length from the start
abbrev pub most_centre : ℕ
most_centre = most_start + most_units

-- ---- the centre of a thin stem, of width below 96
-- the centre that a stem has by its start and its original length l, of which it takes half, rounded down
unfoldable pub centre_of : ℤ → ℤ → ℤ
centre_of start l = start +ℤ shr_z l 2

-- how far the candidates are below and above the pixel edge nearest to the centre: 32 and 32 for a width of at most a pixel, else 38 and 26
unfoldable pub lower_offset : ℤ → ℤ
lower_offset w = cond (le_z w (pos 64)) (pos 32) (pos 38)

unfoldable pub upper_offset : ℤ → ℤ
upper_offset w = cond (le_z w (pos 64)) (pos 32) (pos 26)

-- the candidate below that pixel edge, for a centre c and an offset u
abbrev pub lower_centre : ℤ → ℤ → ℤ
lower_centre c u = pix_round c -ℤ u

-- the candidate above it, for an offset d
abbrev pub upper_centre : ℤ → ℤ → ℤ
upper_centre c d = pix_round c +ℤ d

-- the nearer candidate, the upper on a tie
unfoldable pub nearer_centre : ℤ → ℤ → ℤ → ℤ
nearer_centre c u d = cond (ltb (distance c (lower_centre c u)) (distance c (upper_centre c d))) (lower_centre c u) (upper_centre c d)

-- the centre chosen for a thin stem of centre c and width w
unfoldable pub thin_centre : ℤ → ℤ → ℤ
thin_centre c w = nearer_centre c (lower_offset w) (upper_offset w)

-- its edges are half the width, fraction dropped, from the centre chosen
unfoldable pub thin_first : ℤ → ℤ → ℤ → ℤ
thin_first start l w = thin_centre (centre_of start l) w -ℤ quot_z w (pos 2)

unfoldable pub thin_second : ℤ → ℤ → ℤ → ℤ
thin_second start l w = thin_centre (centre_of start l) w +ℤ quot_z w (pos 2)

-- ---- the first edge of a wide stem, of width 96 and more
-- where the first edge is on a pixel edge, the one nearest to the start
abbrev pub by_first : ℤ → ℤ
by_first start = pix_round start

-- where the second edge is, on the one nearest to the end
abbrev pub by_second : ℤ → ℤ → ℤ → ℤ
by_second start l w = pix_round (start +ℤ l) -ℤ w

-- how far a first edge at p and the width w, half of it rounded down, bring the stem from its centre c
abbrev pub centre_move : ℤ → ℤ → ℤ → ℕ
centre_move p w c = distance (p +ℤ shr_z w 2) c

-- the one of the smaller move, the second edge's on a tie
unfoldable pub wide_first : ℤ → ℤ → ℤ → ℤ
wide_first start l w =
    cond (ltb (centre_move (by_first start) w (centre_of start l)) (centre_move (by_second start l w) w (centre_of start l)))
    (by_first start)
    (by_second start l w)

-- ---- a stem beside an anchor, its second edge not done; the start is what the anchor's shift gives it
-- its first edge
unfoldable pub anchored_first : ℤ → ℤ → ℤ → ℤ
anchored_first start l w = cond (lt_z w (pos 96)) (thin_first start l w) (wide_first start l w)

-- its second edge: a wide stem has its whole width
unfoldable pub anchored_second : ℤ → ℤ → ℤ → ℤ
anchored_second start l w = cond (lt_z w (pos 96)) (thin_second start l w) (wide_first start l w +ℤ w)

-- ---- the first stem, which has no anchor
-- its first edge: a wide stem has it on the nearest pixel edge
unfoldable pub free_first : ℤ → ℤ → ℤ → ℤ
free_first opos l w = cond (lt_z w (pos 96)) (thin_first opos l w) (pix_round opos)
