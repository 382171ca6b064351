-- What is known of a point from touch marks and contour ends alone (document 02, request #110), and the two numbers that say it.
use Rattle.std.specs.Prelude.{Bool, true, cond, ◌&&◌, List, [], ◌∷◌, ℕ, zero, suc, eqb, length, get_or}
use Rattle.std.proofs.Math.Option.{Option, some, none}
use Rattle.weak_contour.specs.Contour.{Contour, is_touched, References, references}
use Rattle.weak.specs.Weak.{contour_of}

-- the point is touched, or of no contour, or its contour has one touched point or none, or these are the nearest touched points before and behind it
pub data Known : Type 0 where
  touched : Known
  no_contour : Known
  one_or_none : Known
  two : ℕ → ℕ → Known

-- an untouched point by its references: the same point twice is the contour's only touched one
unfoldable pub by_two : Option References → Known
by_two none = one_or_none
by_two (some r) = cond (eqb r.before r.behind) one_or_none (two r.before r.behind)

-- an untouched point by its contour
unfoldable pub free : List ℕ → Option Contour → ℕ → Known
free t none i = no_contour
free t (some k) i = by_two (references t k i)

-- what is known of the point i: the first that holds
unfoldable pub known : List ℕ → List ℕ → ℕ → Known
known t es i = cond (is_touched t i) touched (free t (contour_of 0 es i) i)

-- ---- the numbers
-- of what is known where there are not two references
abbrev pub touched_number : ℕ
touched_number = 65535

abbrev pub no_contour_number : ℕ
no_contour_number = 65534

abbrev pub one_or_none_number : ℕ
one_or_none_number = 65533

unfoldable pub before_of : Known → ℕ
before_of touched = touched_number
before_of no_contour = no_contour_number
before_of one_or_none = one_or_none_number
before_of (two p q) = p

unfoldable pub behind_of : Known → ℕ
behind_of touched = touched_number
behind_of no_contour = no_contour_number
behind_of one_or_none = one_or_none_number
behind_of (two p q) = q

-- the entries of the point i
unfoldable pub before_at : List ℕ → List ℕ → ℕ → ℕ
before_at t es i = before_of (known t es i)

unfoldable pub behind_at : List ℕ → List ℕ → ℕ → ℕ
behind_at t es i = behind_of (known t es i)

-- the n entries of a list from i on are those of f
unfoldable pub same_as : List ℕ → (ℕ → ℕ) → ℕ → ℕ → Bool
same_as l f i zero = true
same_as l f i (suc n) = eqb (get_or l i 0) (f i) && same_as l f (suc i) n

-- the lists match: every entry of both is what is known of its point
unfoldable pub matches : List ℕ → List ℕ → List ℕ → List ℕ → Bool
matches t es b h = same_as b (before_at t es) 0 (length t) && same_as h (behind_at t es) 0 (length t)

-- the n entries of f from i on
unfoldable pub entries_from : (ℕ → ℕ) → ℕ → ℕ → List ℕ
entries_from f i zero = []
entries_from f i (suc n) = f i ∷ entries_from f (suc i) n

-- the lists of all points
abbrev pub befores : List ℕ → List ℕ → List ℕ
befores t es = entries_from (before_at t es) 0 (length t)

abbrev pub behinds : List ℕ → List ℕ → List ℕ
behinds t es = entries_from (behind_at t es) 0 (length t)
