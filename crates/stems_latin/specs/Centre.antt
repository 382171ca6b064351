-- The words of request #112: how far from its centre c a thin stem of width w is placed, by the two candidates that it has.
use Rattle.std.specs.Prelude.{◌≡◌, ◌⊎◌, ℕ, ◌≤◌, ℤ, pos, ◌+ℤ◌}
use Rattle.signed.specs.Distance.{distance}
use Rattle.stems_latin.specs.Latin.{lower_offset, upper_offset, lower_centre, upper_centre}

-- half a pixel, as far as a stem may wander
abbrev pub most_wander : ℕ
most_wander = 32

-- the lower candidate and the upper one
abbrev pub lower_of : ℤ → ℤ → ℤ
lower_of c w = lower_centre c (lower_offset w)

abbrev pub upper_of : ℤ → ℤ → ℤ
upper_of c w = upper_centre c (upper_offset w)

-- t is chosen from two candidates, the upper a pixel above the lower: at most half a pixel from c, with neither of them nearer to c, and the upper where both are equally near
pub record Chosen (c lower upper t : ℤ) : Type 0 where
  pub one_of_both : (t ≡ lower) ⊎ (t ≡ upper)
  pub a_pixel_apart : upper ≡ lower +ℤ pos 64
  pub wanders : distance c t ≤ most_wander
  pub lower_not_nearer : distance c t ≤ distance c lower
  pub upper_not_nearer : distance c t ≤ distance c upper
  pub upper_on_a_tie : distance c lower ≡ distance c upper → t ≡ upper

-- the centre t is so chosen for a stem of centre c and width w
abbrev pub ChosenFor : ℤ → ℤ → ℤ → Type 0
ChosenFor c w t = Chosen c (lower_of c w) (upper_of c w) t
