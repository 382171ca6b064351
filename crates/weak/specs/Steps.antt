-- What the steps of `align_weak_points` promise each other.
use Rattle.std.specs.Prelude.{◌≡◌, Bool, true, false, ◌&&◌, List, ℕ, ◌≤◌, ◌<◌, length, ℤ, pos, nat_abs, ◌-ℤ◌, ◌≤ℤ◌}
use Rattle.weak_contour.specs.Limits.{most_points, most_coordinate}
use Rattle.weak_contour.specs.Contour.{at}
use Rattle.weak_contour.specs.Steps.{Coordinates}
use Rattle.weak.specs.Weak.{ends_hold, coordinates_hold, contour_of, steep_on, aligned_at}

-- an outline that is not refused
pub record Accepted (o c : List ℤ) (t es : List ℕ) : Type 0 where
  pub points : length o ≤ most_points
  pub currents_length : length c ≡ length o
  pub marks_length : length t ≡ length o
  pub ends : ends_hold 0 (length o) es ≡ true
  pub originals : Coordinates o
  pub currents : Coordinates c

-- none of its points is too steep
abbrev pub GentleAll : List ℤ → List ℤ → List ℕ → List ℕ → Type 0
GentleAll o c t es = (i : ℕ) → i < length o → steep_on o c t (contour_of 0 es i) i ≡ false

-- ---- the reach of a list's coordinates
-- 0 and every coordinate of the list lie between `least` and `most`
pub record Reaches (l : List ℤ) (least most : ℤ) : Type 0 where
  pub low : least ≤ℤ pos 0
  pub high : pos 0 ≤ℤ most
  pub each : (i : ℕ) → i < length l → (least ≤ℤ at l i) × (at l i ≤ℤ most)

-- how far apart two currents are at the least where a point between them is too steep
abbrev pub least_far : ℕ
least_far = 65536

-- no two coordinates of the list are that far apart
abbrev pub Calm : List ℤ → Type 0
Calm l = (i j : ℕ) → nat_abs (at l j -ℤ at l i) < least_far

-- currents either way of which no two are that far apart
abbrev pub most_near : ℕ
most_near = 32767

-- the originals are within the range, the currents so near 0
abbrev pub all_near : List ℤ → List ℤ → Bool
all_near o c = coordinates_hold most_coordinate o && coordinates_hold most_near c

-- ---- the alignment
-- d is c with every contour of the outline aligned
pub record AllDone (o c : List ℤ) (t es : List ℕ) (d : List ℤ) : Type 0 where
  pub len : length d ≡ length c
  pub each : (i : ℕ) → i < length c → at d i ≡ aligned_at o c t es i
