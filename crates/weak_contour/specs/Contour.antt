-- The points of one contour (document 01, module 2): their references, and where each comes to. A contour is a stretch of an outline's originals o, currents c and
-- touch marks t.
use Rattle.std.specs.Prelude.{Bool, false, not, cond, ◌&&◌, List, ℕ, zero, suc, ◌+◌, ◌-◌, ltb, eqb, get_or, ℤ, pos, ◌+ℤ◌, ◌-ℤ◌}
use Rattle.std.proofs.Math.Option.{Option, some, none}
use Rattle.std.specs.Int.Signed.{lt_z, le_z}
use Rattle.signed.specs.Equality.{eq_z}
use Rattle.fixed.specs.Point.{mul_fix, div_fix}
use Rattle.fixed.specs.Divide.{too_steep}

-- the coordinate of the point i
abbrev pub at : List ℤ → ℕ → ℤ
at l i = get_or l i (pos 0)

-- a contour: its points are those from `start` on that are in front of `end`
pub record Contour : Type 0 where
  pub start : ℕ
  pub end : ℕ

-- ---- the references of a point
-- any nonzero touch mark means touched
abbrev pub is_touched : List ℕ → ℕ → Bool
is_touched t i = ltb 0 (get_or t i 0)

-- the first touched of the n points from i on
unfoldable pub first_touched : List ℕ → ℕ → ℕ → Option ℕ
first_touched t i zero = none
first_touched t i (suc n) = cond (is_touched t i) (some i) (first_touched t (suc i) n)

-- the last touched of the n points from i on
unfoldable pub last_touched : List ℕ → ℕ → ℕ → Option ℕ
last_touched t i zero = none
last_touched t i (suc n) = cond (is_touched t (i + n)) (some (i + n)) (last_touched t i n)

-- what is found first, or else what is found second
abbrev pub or_else : Option ℕ → Option ℕ → Option ℕ
or_else none q = q
or_else (some p) q = some p

-- the nearest touched point before i around the contour k: the last in front of i, or else the last of the contour
unfoldable pub touched_before : List ℕ → Contour → ℕ → Option ℕ
touched_before t k i = or_else (last_touched t k.start (i - k.start)) (last_touched t k.start (k.end - k.start))

-- the nearest touched point behind i around the contour k: the first behind i, or else the first of the contour
unfoldable pub touched_behind : List ℕ → Contour → ℕ → Option ℕ
touched_behind t k i = or_else (first_touched t (suc i) (k.end - suc i)) (first_touched t k.start (k.end - k.start))

-- the nearest touched points before and behind a point around its contour
pub record References : Type 0 where
  pub before : ℕ
  pub behind : ℕ

-- the point p before and the point q behind, as references
abbrev pub refs : ℕ → ℕ → References
refs p q = record { before = p; behind = q }

-- the touched points that were found, as references
abbrev pub paired : Option ℕ → Option ℕ → Option References
paired none q = none
paired (some p) none = none
paired (some p) (some q) = some (refs p q)

-- the references of the point i of the contour k: none where no point of the contour is touched, the same point twice where exactly one is, two where more are
unfoldable pub references : List ℕ → Contour → ℕ → Option References
references t k i = paired (touched_before t k i) (touched_behind t k i)

-- the first reference: the one of smaller original, at equal originals the one before
unfoldable pub first_of : List ℤ → References → ℕ
first_of o r = cond (lt_z (at o r.behind) (at o r.before)) r.behind r.before

-- the second reference: the other one
unfoldable pub second_of : List ℤ → References → ℕ
second_of o r = cond (lt_z (at o r.behind) (at o r.before)) r.before r.behind

-- ---- where a point comes to
-- where the original v comes to, by the original v1 and the current u1 of the first reference and v2 and u2 of the second: at or below v1 it gets the first
-- delta, at or above v2 the second; between, the first's current and, if the currents differ, v - v1 times the fixed quotient of the spans
unfoldable pub interpolated : ℤ → ℤ → ℤ → ℤ → ℤ → ℤ
interpolated v v1 u1 v2 u2 =
    cond (le_z v v1) (v +ℤ (u1 -ℤ v1))
    (cond (le_z v2 v) (v +ℤ (u2 -ℤ v2))
    (cond (eq_z u1 u2) u1 (u1 +ℤ mul_fix (v -ℤ v1) (div_fix (u2 -ℤ u1) (v2 -ℤ v1)))))

-- the untouched point i by its two references
unfoldable pub between_at : List ℤ → List ℤ → References → ℕ → ℤ
between_at o c r i = interpolated (at o i) (at o (first_of o r)) (at c (first_of o r)) (at o (second_of o r)) (at c (second_of o r))

-- the untouched point i by the contour's only touched point p: p's delta is its current less its original; delta 0 leaves i's current, otherwise i becomes its
-- own original plus delta
unfoldable pub shifted_at : List ℤ → List ℤ → ℕ → ℕ → ℤ
shifted_at o c p i = cond (eq_z (at c p) (at o p)) (at c i) (at o i +ℤ (at c p -ℤ at o p))

-- the untouched point i by its references: on a contour with no touched point it does not move; with exactly one it goes by that; with more, by two
unfoldable pub followed : List ℤ → List ℤ → Option References → ℕ → ℤ
followed o c none i = at c i
followed o c (some r) i = cond (eqb r.before r.behind) (shifted_at o c r.before i) (between_at o c r i)

-- the point i of the contour k: touched points stay
unfoldable pub weak_at : List ℤ → List ℤ → List ℕ → Contour → ℕ → ℤ
weak_at o c t k i = cond (is_touched t i) (at c i) (followed o c (references t k i) i)

-- ---- which points are too steep (request #109)
-- the original v lies strictly between the originals v1 and v2 of its references, and the quotient that it needs, of the currents' span by theirs, is too steep; where
-- the currents are equal the quotient is 0, and at equal originals nothing lies between
unfoldable pub steep_between : ℤ → ℤ → ℤ → ℤ → ℤ → Bool
steep_between v v1 u1 v2 u2 = (lt_z v1 v && lt_z v v2) && too_steep (u2 -ℤ u1) (v2 -ℤ v1)

-- the point i by its two references
unfoldable pub steep_by : List ℤ → List ℤ → References → ℕ → Bool
steep_by o c r i = steep_between (at o i) (at o (first_of o r)) (at c (first_of o r)) (at o (second_of o r)) (at c (second_of o r))

-- the point i by its references, where it has any
unfoldable pub steep_followed : List ℤ → List ℤ → Option References → ℕ → Bool
steep_followed o c none i = false
steep_followed o c (some r) i = steep_by o c r i

-- the point i of the contour k: touched points need no quotient
unfoldable pub steep_at : List ℤ → List ℤ → List ℕ → Contour → ℕ → Bool
steep_at o c t k i = not (is_touched t i) && steep_followed o c (references t k i) i
