-- What the walks of one contour promise: a contour is from s up to e.
use Rattle.std.specs.Prelude.{◌≡◌, Bool, true, false, cond, ◌&&◌, List, ℕ, zero, suc, ◌+◌, ◌-◌, ◌≤◌, ◌<◌, leb, ltb, eqb, length, get_or, ℤ}
use Rattle.std.proofs.Math.Option.{Option, some, none}
use Rattle.weak_contour.specs.Steps.{Coordinate}
use Rattle.weak_contour.specs.Contour.{at, Contour, is_touched, first_touched, last_touched, references, steep_at}
use Rattle.weak_known.specs.Known.{Known, touched, by_two, before_of, behind_of, same_as, touched_number, one_or_none_number}

abbrev pub contour : ℕ → ℕ → Contour
contour s e = record { start = s; end = e }

-- what was found, or else n
unfoldable pub found_or : ℕ → Option ℕ → ℕ
found_or n none = n
found_or n (some p) = p

-- what is known of a point of the contour k
unfoldable pub known_on : List ℕ → Contour → ℕ → Known
known_on t k i = cond (is_touched t i) touched (by_two (references t k i))

unfoldable pub before_on : List ℕ → Contour → ℕ → ℕ
before_on t k i = before_of (known_on t k i)

unfoldable pub behind_on : List ℕ → Contour → ℕ → ℕ
behind_on t k i = behind_of (known_on t k i)

-- the number v, but of a touched point that one
unfoldable pub plain_at : List ℕ → ℕ → ℕ → ℕ
plain_at t v i = cond (is_touched t i) touched_number v

-- the last touched point in front of i from s on, or else `last`
unfoldable pub prior_at : List ℕ → ℕ → ℕ → ℕ → ℕ
prior_at t s last i = cond (is_touched t i) touched_number (found_or last (last_touched t s (i - s)))

-- the first touched point behind i in front of e, or else `first`
unfoldable pub later_at : List ℕ → ℕ → ℕ → ℕ → ℕ
later_at t e first i = cond (is_touched t i) touched_number (found_or first (first_touched t (suc i) (e - suc i)))

-- both lists say what is known of the points from s up to e
abbrev pub said_on : List ℕ → List ℕ → List ℕ → ℕ → ℕ → Bool
said_on t b h s e = same_as b (before_on t (contour s e)) s (e - s) && same_as h (behind_on t (contour s e)) s (e - s)

-- ---- the match of one contour
-- what the entry v of the point i shows its neighbours: i itself where it says that i is touched, or v
unfoldable pub shows : ℕ → ℕ → ℕ
shows v i = cond (eqb v touched_number) i v

-- the first and the last touched point of the contour from s up to e, as the entries at its ends show them
abbrev pub first_shown : List ℕ → ℕ → ℕ
first_shown h s = shows (get_or h s 0) s

abbrev pub last_shown : List ℕ → ℕ → ℕ
last_shown b e = shows (get_or b (e - 1) 0) (e - 1)

-- they are two points of it
unfoldable pub show_two : List ℕ → List ℕ → ℕ → ℕ → Bool
show_two b h s e = leb s (first_shown h s) && (ltb (first_shown h s) (last_shown b e) && ltb (last_shown b e) e)

-- the first is touched, and the entries of the contour's ends refer to them
unfoldable pub seam_holds : List ℕ → List ℕ → List ℕ → ℕ → ℕ → Bool
seam_holds t b h s e =
    is_touched t (first_shown h s)
    && (eqb (get_or b s 0) (cond (is_touched t s) touched_number (last_shown b e)) && eqb (get_or h (e - 1) 0) (cond (is_touched t (e - 1)) touched_number (first_shown h s)))

-- the entries p and u of the point j, and q and w of i behind it, whose mark is m, fit each other
unfoldable pub fits : ℕ → ℕ → ℕ → ℕ → ℕ → ℕ → ℕ → Bool
fits m p q u w j i = eqb q (cond (ltb 0 m) touched_number (shows p j)) && eqb u (cond (eqb p touched_number) touched_number (shows w i))

-- those of the point j and of the one behind it
unfoldable pub fits_at : List ℕ → List ℕ → List ℕ → ℕ → Bool
fits_at t b h j = fits (get_or t (suc j) 0) (get_or b j 0) (get_or b (suc j) 0) (get_or h j 0) (get_or h (suc j) 0) j (suc j)

-- f holds of the n numbers from i on
unfoldable pub all_from : (ℕ → Bool) → ℕ → ℕ → Bool
all_from f i zero = true
all_from f i (suc n) = f i && all_from f (suc i) n

-- the weight of a point whose mark is m and whose entries are p and u, where its contour has one touched point or none: 2 where an entry is wrong, else 1 of a touched one
unfoldable pub weight : ℕ → ℕ → ℕ → ℕ
weight m p u = cond (eqb p (cond (ltb 0 m) touched_number one_or_none_number) && eqb u (cond (ltb 0 m) touched_number one_or_none_number)) (cond (ltb 0 m) 1 0) 2

unfoldable pub weight_at : List ℕ → List ℕ → List ℕ → ℕ → ℕ
weight_at t b h i = weight (get_or t i 0) (get_or b i 0) (get_or h i 0)

-- the sum of f over the n numbers from i on
unfoldable pub sum_from : (ℕ → ℕ) → ℕ → ℕ → ℕ
sum_from f i zero = 0
sum_from f i (suc n) = f i + sum_from f (suc i) n

-- ---- what is written
-- m is l with f i at each place i from a on that is in front of b
pub record Put (f : ℕ → ℕ) (a b : ℕ) (l m : List ℕ) : Type 0 where
  pub len : length m ≡ length l
  pub inside : (i : ℕ) → a ≤ i → i < b → get_or m i 0 ≡ f i
  pub below : (i : ℕ) → i < a → get_or m i 0 ≡ get_or l i 0
  pub above : (i : ℕ) → b ≤ i → get_or m i 0 ≡ get_or l i 0

-- the lists say what is known of each point from s up to e
pub record Says (t b h : List ℕ) (s e : ℕ) : Type 0 where
  pub before : (i : ℕ) → s ≤ i → i < e → get_or b i 0 ≡ before_on t (contour s e) i
  pub behind : (i : ℕ) → s ≤ i → i < e → get_or h i 0 ≡ behind_on t (contour s e) i

-- two points from s up to e are touched: the first and the last that are
pub record TwoOn (t : List ℕ) (s e : ℕ) : Type 0 where
  pub first : ℕ
  pub last : ℕ
  pub first_is : first_touched t s (e - s) ≡ some first
  pub last_is : last_touched t s (e - s) ≡ some last
  pub different : first ≡ last → ⊥

-- one is or none: the first that is found is the last
abbrev pub LoneOn : List ℕ → ℕ → ℕ → Type 0
LoneOn t s e = found_or e (first_touched t s (e - s)) ≡ found_or e (last_touched t s (e - s))

-- the coordinates from s up to e are accepted: those of contours that are aligned already may lie beyond
abbrev pub CoordinatesOn : List ℤ → ℕ → ℕ → Type 0
CoordinatesOn c s e = (i : ℕ) → s ≤ i → i < e → Coordinate (at c i)

-- none of the contour's points is too steep
abbrev pub GentleOn : List ℤ → List ℤ → List ℕ → ℕ → ℕ → Type 0
GentleOn o c t s e = (i : ℕ) → s ≤ i → i < e → steep_at o c t (contour s e) i ≡ false
