-- Weak points (document 01, module 2): which outlines are refused, and where each point of the others comes to. An outline is its points' originals o, currents
-- c and touch marks t, and the ends es of its contours.
use Rattle.std.specs.Prelude.{◌≡◌, Bool, true, false, not, cond, ◌&&◌, List, [], ◌∷◌, ◌++◌, ℕ, zero, suc, leb, ltb, eqb, length, ℤ, nat_abs}
use Rattle.std.proofs.Math.Option.{Option, some, none}
use Rattle.refusals.specs.Refusal.{Test, ◌unless◌, refusal, answered, too_long, bad_index, out_of_range, steep}
use Rattle.weak_contour.specs.Limits.{most_points, most_coordinate}
use Rattle.weak_contour.specs.Contour.{at, Contour, weak_at, steep_at}

-- ---- the refusals
-- the ends rise strictly, the first from `start` on, and each is below the point count
unfoldable pub ends_hold : ℕ → ℕ → List ℕ → Bool
ends_hold start count [] = true
ends_hold start count (e ∷ es) = leb start e && (ltb e count && ends_hold (suc e) count es)

-- the coordinate is at most `most` either way
unfoldable pub coordinate_holds : ℕ → ℤ → Bool
coordinate_holds most z = leb (nat_abs z) most

-- each coordinate of the list is
unfoldable pub coordinates_hold : ℕ → List ℤ → Bool
coordinates_hold most [] = true
coordinates_hold most (z ∷ zs) = coordinate_holds most z && coordinates_hold most zs

-- the tests of an outline with two coordinates a point, in document 01's order: those of its lists and contour ends
abbrev pub list_tests : List ℤ → List ℤ → List ℕ → List ℕ → List Test
list_tests o c t es =
    too_long unless leb (length o) most_points
    ∷ too_long unless eqb (length c) (length o)
    ∷ too_long unless eqb (length t) (length o)
    ∷ bad_index unless ends_hold 0 (length o) es
    ∷ []

-- those of its coordinates, each at most `most` either way
abbrev pub range_tests : ℕ → List ℤ → List ℤ → List Test
range_tests most o c = out_of_range unless coordinates_hold most o ∷ out_of_range unless coordinates_hold most c ∷ []

-- and both in a row
abbrev pub outline_tests : ℕ → List ℤ → List ℤ → List ℕ → List ℕ → List Test
outline_tests most o c t es = list_tests o c t es ++ range_tests most o c

-- ---- contours
-- the contour of the point i, where the first of the contours with these ends starts at `start` and each other behind the one before it; the points behind
-- the last belong to none
unfoldable pub contour_of : ℕ → List ℕ → ℕ → Option Contour
contour_of start [] i = none
contour_of start (e ∷ es) i = cond (leb i e) (some (record { start = start; end = suc e })) (contour_of (suc e) es i)

-- ---- which outlines are too steep (request #109)
-- a point of a contour, or of none
unfoldable pub steep_on : List ℤ → List ℤ → List ℕ → Option Contour → ℕ → Bool
steep_on o c t none i = false
steep_on o c t (some k) i = steep_at o c t k i

-- none of the n points from i on is too steep
unfoldable pub gentle_from : (ℕ → Bool) → ℕ → ℕ → Bool
gentle_from f i zero = true
gentle_from f i (suc n) = not (f i) && gentle_from f (suc i) n

-- no point of the outline is
unfoldable pub gentle : List ℤ → List ℤ → List ℕ → List ℕ → Bool
gentle o c t es = gentle_from (λ i. steep_on o c t (contour_of 0 es i) i) 0 (length o)

-- the tests of an outline's numbers: its coordinates, and then that no point is too steep
abbrev pub number_tests : List ℤ → List ℤ → List ℕ → List ℕ → List Test
number_tests o c t es = range_tests most_coordinate o c ++ (steep unless gentle o c t es ∷ [])

-- the tests of `align_weak_points`
abbrev pub weak_tests : List ℤ → List ℤ → List ℕ → List ℕ → List Test
weak_tests o c t es = list_tests o c t es ++ number_tests o c t es

-- ---- where a point comes to
-- a point of a contour, or of none, which stays
unfoldable pub on_contour : List ℤ → List ℤ → List ℕ → Option Contour → ℕ → ℤ
on_contour o c t none i = at c i
on_contour o c t (some k) i = weak_at o c t k i

-- where the point i of an accepted outline comes to
unfoldable pub aligned_at : List ℤ → List ℤ → List ℕ → List ℕ → ℕ → ℤ
aligned_at o c t es i = on_contour o c t (contour_of 0 es i) i

-- ---- what the call leaves
-- f i, f (i + 1), .., n of them
unfoldable pub list_of : (ℕ → ℤ) → ℕ → ℕ → List ℤ
list_of f i zero = []
list_of f i (suc n) = f i ∷ list_of f (suc i) n

-- the currents at the end: a refusal writes nothing
unfoldable pub result : List ℤ → List ℤ → List ℕ → List ℕ → List ℤ
result o c t es = answered (refusal (weak_tests o c t es)) (λ _. c) (list_of (aligned_at o c t es) 0 (length c))

-- what `align_weak_points` owes its caller: the answer a, 0 or the number of a refusal, and the currents d that it leaves
pub record Outcome (o c : List ℤ) (t es : List ℕ) (a : ℕ) (d : List ℤ) : Type 0 where
  pub answer : a ≡ refusal (weak_tests o c t es)
  pub currents : d ≡ result o c t es
