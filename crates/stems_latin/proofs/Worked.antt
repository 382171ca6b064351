-- Values of the definitions, worked out by hand from document 01 and the Rust: one table, one statement.
use mathlib.Core.Path.{◌≡◌, refl}
use mathlib.Core.List.{List, [], ◌∷◌, map}
use lib.IntN.{pos}
use Rattle.signed.specs.Distance.{distance}
use Rattle.signed.specs.Table.{Row, ◌is◌, minus}
use Rattle.fixed.specs.Pixel.{pix_floor, pix_round}
use Rattle.stems_latin.specs.Latin.{
  most_start,
  most_length,
  most_width,
  centre_of,
  lower_offset,
  upper_offset,
  nearer_centre,
  thin_centre,
  thin_first,
  thin_second,
  wide_first,
  anchored_first,
  anchored_second,
  free_first,
}
use Rattle.stems_latin.specs.Centre.{lower_of, upper_of}

unfoldable pub rows : List Row
rows =
    -- document 01's rows beside an anchor at 0 and unmoved: 100 and 160, then 87 and 157, where the offsets 38 and 26 tie
    (anchored_first (pos 100) (pos 60) (pos 60) is pos 130) ∷
    (anchored_second (pos 100) (pos 60) (pos 60) is pos 190) ∷
    (anchored_first (pos 87) (pos 70) (pos 70) is pos 119) ∷
    (anchored_second (pos 87) (pos 70) (pos 70) is pos 189) ∷
    -- an odd width loses a unit, a negative one too
    (anchored_first (pos 100) (pos 61) (pos 61) is pos 130) ∷
    (anchored_second (pos 100) (pos 61) (pos 61) is pos 190) ∷
    (anchored_first (pos 100) (minus 61) (minus 61) is pos 126) ∷
    (anchored_second (pos 100) (minus 61) (minus 61) is pos 66) ∷
    -- offsets 32 and 32 up to a pixel, a tie between them, and half a length rounded down
    (anchored_first (pos 0) (pos 64) (pos 64) is pos 0) ∷
    (anchored_first (pos 0) (pos 65) (pos 65) is minus 6) ∷
    (anchored_first (pos 0) (pos 1) (pos 1) is pos 32) ∷
    (anchored_first (pos 0) (minus 1) (minus 1) is minus 32) ∷
    -- width 95, then 96 and more: the second edge on a pixel edge, the first one, and a tie
    (anchored_first (pos 100) (pos 95) (pos 95) is pos 107) ∷
    (anchored_second (pos 100) (pos 95) (pos 95) is pos 201) ∷
    (anchored_first (pos 100) (pos 96) (pos 96) is pos 96) ∷
    (anchored_second (pos 100) (pos 96) (pos 96) is pos 192) ∷
    (anchored_first (pos 10) (pos 100) (pos 100) is pos 0) ∷
    (anchored_second (pos 10) (pos 100) (pos 100) is pos 100) ∷
    (anchored_first (minus 69) (pos 138) (pos 138) is minus 74) ∷
    (anchored_second (minus 69) (pos 138) (pos 138) is pos 64) ∷
    -- a fitted width that is not the length
    (anchored_first (pos 20) (pos 120) (pos 101) is pos 27) ∷
    (anchored_second (pos 20) (pos 120) (pos 101) is pos 128) ∷
    -- the limits
    (anchored_first (pos most_start) (pos most_length) (pos most_width) is pos 67999986) ∷
    (anchored_second (pos most_start) (pos most_length) (pos most_width) is pos 68131072) ∷
    -- without an anchor: a tie, an odd width, width 95 and 96, a negative one at its limit
    (free_first (pos 87) (pos 70) (pos 70) is pos 119) ∷
    (free_first (pos 100) (pos 61) (pos 61) is pos 130) ∷
    (free_first (pos 100) (pos 95) (pos 95) is pos 107) ∷
    (free_first (pos 100) (pos 96) (pos 96) is pos 128) ∷
    (free_first (pos 16383) (minus 32766) (minus 32782) is pos 16423) ∷
    -- request #112: half a pixel is reached, at a width of at most a pixel and above, where both candidates are as far and the upper is chosen
    (lower_of (pos 128) (pos 64) is pos 96) ∷
    (upper_of (pos 128) (pos 64) is pos 160) ∷
    (thin_centre (pos 128) (pos 64) is pos 160) ∷
    (pos (distance (pos 128) (thin_centre (pos 128) (pos 64))) is pos 32) ∷
    (lower_of (pos 122) (pos 65) is pos 90) ∷
    (upper_of (pos 122) (pos 65) is pos 154) ∷
    (thin_centre (pos 122) (pos 65) is pos 154) ∷
    (pos (distance (pos 122) (thin_centre (pos 122) (pos 65))) is pos 32) ∷
    -- a unit below and above them, an upper candidate below the centre, a width of 0 and a negative one
    (thin_centre (pos 127) (pos 64) is pos 96) ∷
    (thin_centre (pos 121) (pos 65) is pos 90) ∷
    (thin_centre (pos 159) (pos 95) is pos 154) ∷
    (thin_centre (pos 64) (pos 0) is pos 96) ∷
    (thin_centre (minus 64) (minus 10) is minus 32) ∷
    []

-- each row holds
pub worked : map (λ (r : Row). r.gives) rows ≡ map (λ (r : Row). r.value) rows
unfolding pix_floor pix_round centre_of lower_offset upper_offset nearer_centre thin_centre thin_first thin_second wide_first anchored_first anchored_second free_first rows
worked = refl
