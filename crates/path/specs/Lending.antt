-- One step of a path in lent places.
use Rattle.std.specs.Prelude.{◌≡◌, List, [], ◌∷◌, ℕ, Float, ℤ}
use Rattle.path_places.specs.Places.{origin}
use Rattle.path_places.specs.declared.PixelPoint.{PixelPoint}
use Rattle.path_trip.specs.Numbers.{kind_of, first_of, second_of}
use Rattle.path.specs.Answer.{Handed, Refused, Finished, Step}
use Rattle.path.specs.Handing.{handed}

-- two places as four numbers
abbrev pub four : PixelPoint → PixelPoint → List Float
four p q = p.x ∷ p.y ∷ q.x ∷ q.y ∷ []

-- the number of the refusal, or 0
abbrev pub answer_of : Handed → ℕ
answer_of (Refused n) = n
answer_of Finished = 0
answer_of (Step s c) = 0

-- the kind that is left, where `kind` stood: a refusal writes nothing, and 0 is finished
abbrev pub kind_after : Handed → ℕ → ℕ
kind_after (Refused n) kind = kind
kind_after Finished kind = 0
kind_after (Step s c) kind = kind_of s

-- the numbers that are left, where `places` stood
abbrev pub places_after : Handed → List Float → List Float
places_after (Refused n) places = places
places_after Finished places = four origin origin
places_after (Step s c) places = four (first_of s) (second_of s)

-- the cursor that is left, where `next` stood: that of the call where no step is handed out
abbrev pub next_after : Handed → ℕ → ℕ → ℕ
next_after (Refused n) cursor next = next
next_after Finished cursor next = cursor
next_after (Step s c) cursor next = c.at

-- what `lend_step` owes its caller: the answer r, and what it leaves where `kind`, `places` and `next` stood
pub record StepLent (xs ys : List ℤ) (marks es : List ℕ) (cursor kind : ℕ) (places : List Float) (next r kind' : ℕ) (places' : List Float) (next' : ℕ) : Type 0 where
  pub answer : r ≡ answer_of (handed xs ys marks es cursor)
  pub kind_is : kind' ≡ kind_after (handed xs ys marks es cursor) kind
  pub places_are : places' ≡ places_after (handed xs ys marks es cursor) places
  pub next_is : next' ≡ next_after (handed xs ys marks es cursor) cursor next
