-- What the steps of `align_catalogue` promise each other.
use Rattle.std.specs.Prelude.{◌≡◌, List, ℕ, length, ℤ}
use Rattle.weak_catalogue.specs.Catalogue.{total, answers_of, currents_of}

-- a catalogue that is not refused
pub record AddsUp (o c : List ℤ) (t es ns ks bs : List ℕ) : Type 0 where
  pub point-counts : length ns ≡ length bs
  pub contour-counts : length ks ≡ length bs
  pub currents_length : length c ≡ length o
  pub marks_length : length t ≡ length o
  pub points : length o ≡ total ns
  pub contours : length es ≡ total ks

-- every outline is done: d are the currents and rs the answers at the end
pub record EachDone (o c : List ℤ) (t es ns ks : List ℕ) (d : List ℤ) (rs : List ℕ) : Type 0 where
  pub currents : d ≡ currents_of o c t es ns ks
  pub answers : rs ≡ answers_of o c t es ns ks
