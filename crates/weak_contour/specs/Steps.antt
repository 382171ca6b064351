-- What the steps of `align_contour` promise each other. They work on one contour's stretch of the lists: originals o, currents c and marks t.
use Rattle.std.specs.Prelude.{◌≡◌, Bool, true, false, cond, ◌&&◌, List, ℕ, ◌≤◌, ◌<◌, length, get_or, ℤ, pos, ◌+ℤ◌, ◌-ℤ◌, ◌≤ℤ◌}
use Rattle.std.specs.Int.Signed.{lt_z}
use Rattle.signed.specs.Range.{Between}
use Rattle.fixed.specs.Point.{div_fix}
use Rattle.fixed.specs.Divide.{too_steep}
use Rattle.weak_contour.specs.Limits.{most_coordinate}
use Rattle.signed.specs.Equality.{eq_z}
use Rattle.weak_contour.specs.Contour.{at, Contour, References, interpolated, weak_at, steep_between, steep_by, steep_at}
use Rattle.weak_contour.specs.declared.iup.Span.{Span}

-- z is an accepted coordinate
abbrev pub Coordinate : ℤ → Type 0
Coordinate z = Between most_coordinate most_coordinate z

-- every coordinate of the list is accepted
abbrev pub Coordinates : List ℤ → Type 0
Coordinates l = (i : ℕ) → Coordinate (at l i)

-- the contour that a stretch is
abbrev pub whole : List ℕ → Contour
whole t = record { start = 0; end = length t }

-- no point from a on that is in front of b is touched
abbrev pub Clear : List ℕ → ℕ → ℕ → Type 0
Clear t a b = (z : ℕ) → z < b → a ≤ z → get_or t z 0 ≡ 0

-- r is the first touched point at or behind a, or the number of points
pub record Next (t : List ℕ) (a r : ℕ) : Type 0 where
  pub low : a ≤ r
  pub high : r ≤ length t
  pub clear : Clear t a r
  pub here : r < length t → 0 < get_or t r 0

-- d is c with f i at each place i from a on that is in front of b
pub record Wrote (f : ℕ → ℤ) (a b : ℕ) (c d : List ℤ) : Type 0 where
  pub len : length d ≡ length c
  pub inside : (i : ℕ) → a ≤ i → i < b → at d i ≡ f i
  pub below : (i : ℕ) → i < a → at d i ≡ at c i
  pub above : (i : ℕ) → b ≤ i → at d i ≡ at c i

-- the fixed quotient of the spans between two references, 0 where it is not used: at equal currents, at equal originals, and where it is too steep
unfoldable pub slope : ℤ → ℤ → ℤ → ℤ → ℤ
slope v1 u1 v2 u2 = cond (eq_z u1 u2) (pos 0) (cond (eq_z v1 v2) (pos 0) (cond (too_steep (u2 -ℤ u1) (v2 -ℤ v1)) (pos 0) (div_fix (u2 -ℤ u1) (v2 -ℤ v1))))

-- accepted coordinates of two references, the first of which has no larger original
pub record Ordered (v1 u1 v2 u2 : ℤ) : Type 0 where
  pub original1 : Coordinate v1
  pub current1 : Coordinate u1
  pub original2 : Coordinate v2
  pub current2 : Coordinate u2
  pub order : v1 ≤ℤ v2

-- the span between two references
abbrev pub span_of : ℤ → ℤ → ℤ → ℤ → Span
span_of v1 u1 v2 u2 = record { v1 = v1; u1 = u1; v2 = v2; u2 = u2; scale = slope v1 u1 v2 u2 }

-- a span as `span_of` makes it, between accepted references in their order
pub record SpanHolds (s : Span) : Type 0 where
  pub ordered : Ordered s.v1 s.u1 s.v2 s.u2
  pub scaled : s.scale ≡ slope s.v1 s.u1 s.v2 s.u2

-- where the original of the point i comes to by the references of a span
unfoldable pub spanned_at : List ℤ → Span → ℕ → ℤ
spanned_at o s i = interpolated (at o i) s.v1 s.u1 s.v2 s.u2

-- none of the points from a on that are in front of b is too steep for the span s
abbrev pub GentleSpan : List ℤ → Span → ℕ → ℕ → Type 0
GentleSpan o s a b = (i : ℕ) → a ≤ i → i < b → steep_between (at o i) s.v1 s.u1 s.v2 s.u2 ≡ false

-- nor for the references r
abbrev pub GentleRefs : List ℤ → List ℤ → References → ℕ → ℕ → Type 0
GentleRefs o c r a b = (i : ℕ) → a ≤ i → i < b → steep_by o c r i ≡ false

-- no point of the contour is too steep
abbrev pub Gentle : List ℤ → List ℤ → List ℕ → Type 0
Gentle o c t = (i : ℕ) → i < length t → steep_at o c t (whole t) i ≡ false

-- the original of the point i, moved by delta
unfoldable pub moved_by : List ℤ → ℤ → ℕ → ℤ
moved_by o delta i = at o i +ℤ delta

-- d is c with the points from f up to and with p, which is touched, aligned
pub record Upto (o c : List ℤ) (t : List ℕ) (f p : ℕ) (d : List ℤ) : Type 0 where
  pub len : length d ≡ length c
  pub low : f ≤ p
  pub high : p < length t
  pub mark : 0 < get_or t p 0
  pub inside : (i : ℕ) → f ≤ i → i ≤ p → at d i ≡ weak_at o c t (whole t) i
  pub below : (i : ℕ) → i < f → at d i ≡ at c i
  pub above : (i : ℕ) → p < i → at d i ≡ at c i

-- d is c with every point aligned
pub record Done (o c : List ℤ) (t : List ℕ) (d : List ℤ) : Type 0 where
  pub len : length d ≡ length c
  pub each : (i : ℕ) → i < length c → at d i ≡ weak_at o c t (whole t) i

-- ---- the search for a point that is too steep
-- one of the points from a on that are in front of b has f
pub record Somewhere (f : ℕ → Bool) (a b : ℕ) : Type 0 where
  pub place : ℕ
  pub low : a ≤ place
  pub high : place < b
  pub here : f place ≡ true

-- r tells whether one of them has
pub record Tells (f : ℕ → Bool) (a b : ℕ) (r : Bool) : Type 0 where
  pub yes : r ≡ true → Somewhere f a b
  pub no : r ≡ false → (i : ℕ) → a ≤ i → i < b → f i ≡ false

-- the original v lies strictly between v1 and v2
abbrev pub is_between : ℤ → ℤ → ℤ → Bool
is_between v v1 v2 = lt_z v1 v && lt_z v v2

-- so does that of the point i
unfoldable pub between_originals : List ℤ → ℤ → ℤ → ℕ → Bool
between_originals o v1 v2 i = is_between (at o i) v1 v2

-- the point i is too steep for references of these originals and currents
unfoldable pub steep_for : List ℤ → ℤ → ℤ → ℤ → ℤ → ℕ → Bool
steep_for o v1 u1 v2 u2 i = steep_between (at o i) v1 u1 v2 u2
