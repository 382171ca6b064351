-- Demand 3 and its words: an untouched point between two touched ones, what being faithful to them is, and what the order is that is kept.
use Rattle.std.specs.Prelude.{◌≡◌, true, false, List, ◌⊎◌, ℕ, ◌*◌, ◌≤◌, ◌<◌, ℤ, pos, nat_abs, ◌+ℤ◌, ◌-ℤ◌, ◌*ℤ◌, ◌≤ℤ◌, ◌<ℤ◌}
use Rattle.std.proofs.Math.Option.{some}
use Rattle.weak_contour.specs.Contour.{at, Contour, is_touched, References, refs, references, first_of, second_of}
use Rattle.weak.specs.Weak.{contour_of}

-- p is a touched point of the contour k
pub record TouchedOn (t : List ℕ) (k : Contour) (p : ℕ) : Type 0 where
  pub low : k.start ≤ p
  pub high : p < k.end
  pub touched : is_touched t p ≡ true

-- the contour k has two or more touched points: x and y are two of them
pub record TwoTouched (t : List ℕ) (k : Contour) : Type 0 where
  pub x : ℕ
  pub y : ℕ
  pub x_on : TouchedOn t k x
  pub y_on : TouchedOn t k y
  pub different : x ≡ y → ⊥

-- the point i is untouched, on a contour with two or more touched points
pub record Led (t es : List ℕ) (i : ℕ) : Type 0 where
  pub contour : Contour
  pub on : contour_of 0 es i ≡ some contour
  pub untouched : is_touched t i ≡ false
  pub more : TwoTouched t contour

-- the longest span of originals at which no point comes to lie outside its references
abbrev pub most_inside : ℕ
most_inside = 65536

-- the longest one at which a point is less than 3/4 unit from the straight line
abbrev pub most_old : ℕ
most_old = 32768

-- z is less than k/4 units from the straight line, both sides times 4 spans
abbrev pub Within : ℕ → ℤ → ℤ → ℤ → ℤ → ℤ → ℤ → Type 0
Within k v v1 u1 v2 u2 z = nat_abs (pos 4 *ℤ (v2 -ℤ v1) *ℤ (z -ℤ u1) -ℤ pos 4 *ℤ (v -ℤ v1) *ℤ (u2 -ℤ u1)) < k * nat_abs (v2 -ℤ v1)

-- the original v, strictly between the originals v1 and v2 of its references, whose currents are u1 and u2, comes to z
pub record Faithful (v v1 u1 v2 u2 z : ℤ) : Type 0 where
  -- less than one and a half units from the straight line
  pub close : Within 6 v v1 u1 v2 u2 z
  -- at most one unit outside the references' currents
  pub beside : ((u1 ≤ℤ (z +ℤ pos 1)) × (z ≤ℤ (u2 +ℤ pos 1))) ⊎ ((u2 ≤ℤ (z +ℤ pos 1)) × (z ≤ℤ (u1 +ℤ pos 1)))
  -- and not outside, where the originals are at most 65,536 apart
  pub inside : nat_abs (v2 -ℤ v1) ≤ most_inside → ((u1 ≤ℤ z) × (z ≤ℤ u2)) ⊎ ((u2 ≤ℤ z) × (z ≤ℤ u1))
  -- where they are at most 32,768 apart, so on every outline of old, less than 3/4 unit from the line
  pub closer : nat_abs (v2 -ℤ v1) ≤ most_old → Within 3 v v1 u1 v2 u2 z

-- the one exception from the order: the originals of the references are more than 65,536 apart, v lies strictly between them, and w is the second's
pub record Passes (v w v1 v2 : ℤ) : Type 0 where
  pub long : most_inside < nat_abs (v2 -ℤ v1)
  pub above : v1 <ℤ v
  pub below : v <ℤ v2
  pub at_second : w ≡ v2

-- v, which is not above w, comes to y, which is not above what w comes to, z; in the exception it may pass that by one unit
abbrev pub KeepsOrder : ℤ → ℤ → ℤ → ℤ → ℤ → ℤ → Type 0
KeepsOrder v w v1 v2 y z = (y ≤ℤ z) ⊎ (Passes v w v1 v2 × (y ≤ℤ (z +ℤ pos 1)))

-- the point i of the contour k, which comes to z, has two references, different touched points of the contour, the nearest before and behind it around the
-- contour, and where its original lies strictly between theirs it is faithful to them
pub record Follows (o c : List ℤ) (t : List ℕ) (k : Contour) (i : ℕ) (z : ℤ) : Type 0 where
  pub by : References
  pub nearest : references t k i ≡ some by
  pub before : TouchedOn t k by.before
  pub behind : TouchedOn t k by.behind
  pub different : by.before ≡ by.behind → ⊥
  pub faithful : at o (first_of o by) <ℤ at o i → at o i <ℤ at o (second_of o by)
      → Faithful (at o i) (at o (first_of o by)) (at c (first_of o by)) (at o (second_of o by)) (at c (second_of o by)) z

-- the point i is untouched and lies between the neighbouring touched points p and q on their contour, around its seam too: they are its references. Where p and
-- q are the only touched points there are two stretches between them
pub record Amid (t es : List ℕ) (p q i : ℕ) : Type 0 where
  pub contour : Contour
  pub on : contour_of 0 es i ≡ some contour
  pub untouched : is_touched t i ≡ false
  pub by : (references t contour i ≡ some (refs p q)) ⊎ (references t contour i ≡ some (refs q p))

-- the touched points p and q have different originals, and their currents are not in opposite order
pub record InOrder (o c : List ℤ) (p q : ℕ) : Type 0 where
  pub different : at o p ≡ at o q → ⊥
  pub upward : at o p <ℤ at o q → at c p ≤ℤ at c q
  pub downward : at o q <ℤ at o p → at c q ≤ℤ at c p

-- demand 3, of the currents d at the end of a call
pub record Demand3 (o c : List ℤ) (t es : List ℕ) (d : List ℤ) : Type 0 where
  -- every untouched point on a contour with two or more touched points follows its references
  pub follows : (i : ℕ) (p : Led t es i) → Follows o c t p.contour i (at d i)
  -- between neighbouring touched points in order none ends above one of higher original, since what is not higher ends not higher, but for the exception
  pub in_order : (p q : ℕ) → InOrder o c p q → (i j : ℕ) → Amid t es p q i → Amid t es p q j → at o i ≤ℤ at o j
      → KeepsOrder (at o i) (at o j) (at o (first_of o (refs p q))) (at o (second_of o (refs p q))) (at d i) (at d j)
  -- and equal originals end equal
  pub equal : (p q : ℕ) → InOrder o c p q → (i j : ℕ) → Amid t es p q i → Amid t es p q j → at o i ≡ at o j → at d i ≡ at d j
