-- Refusal 8: what the walk over the contours tells of the outline.
use mathlib.Core.Path.{◌≡◌, refl, sym, ◌∙◌, ap}
use mathlib.Core.Bool.{Bool, true, false, not, ◌&&◌}
use mathlib.Core.List.{List}
use mathlib.Core.Option.{Option, some, none}
use Prim.Native.Nat.{ℕ, zero, suc, ◌+◌, ◌-◌, ◌≤◌, ◌<◌}
use native.Mathlib.Decide.{dec_lt, ℕ_discrete}
use native.Mathlib.Numerals.{add-one}
use native.Mathlib.Omega.{arith}
use borrow.Rule.Slice.PartMut.{mid_len}
use lib.ListN.{length, get_or, take, drop, drop_of_length-le, get_or-eq_default}
use lib.IntN.{ℤ, pos, nat_abs, ◌-ℤ◌}
use lib.Signed.{lt_z, ◌≤ℤ◌}
use Rattle.signed.specs.Parts.{up, dn}
use Rattle.signed.proofs.Signed.{nat_abs-is, one-zero, sub-law, atmost, signed}
use Rattle.refusals.specs.Refusal.{refusal}
use Rattle.refusals.proofs.Tests.{and_first, and_second}
use Rattle.weak_contour.specs.Limits.{most_coordinate}
use Rattle.weak_contour.specs.Contour.{at, Contour, is_touched, References, references, first_of, second_of, steep_between, steep_by, steep_followed, steep_at}
use Rattle.fixed.specs.Divide.{too_steep, quotient_of, quotient_number}
use Rattle.weak_contour.specs.Steps.{Coordinates, whole, Tells, Gentle, is_between}
use Rattle.weak_contour.proofs.Steepness.{calm-between}
use Rattle.weak.specs.Weak.{ends_hold, coordinates_hold, contour_of, steep_on, gentle_from, gentle, number_tests}
use Rattle.weak.specs.Steps.{Accepted, GentleAll, Calm, most_near, all_near}
use Rattle.weak.proofs.Refusals.{EndAt, end-at, coordinates-of, hold-more, number-steep}
use Rattle.weak.proofs.Reaching.{calm-near}
use Rattle.weak.proofs.Contours.{contour-here, contour-later}
use Rattle.weak.proofs.Parts.{part, stretch, alone, steep-part}

-- ---- the test over all points
pub gentle-all : (f : ℕ → Bool) (i n : ℕ) → ((j : ℕ) → i ≤ j → j < i + n → f j ≡ false) → gentle_from f i n ≡ true
unfolding gentle_from
gentle-all f i zero h = refl
gentle-all f i (suc n) h = rw (h i (omega arith) (omega arith)) (gentle-all f (suc i) n (λ j a b. h j (omega arith) (omega arith)))

pub gentle-no : (f : ℕ → Bool) (i n j : ℕ) → i ≤ j → j < i + n → f j ≡ true → gentle_from f i n ≡ false
unfolding gentle_from
gentle-no f i zero j a b e = absurd (omega arith)
gentle-no f i (suc n) j a b e = by (ℕ_discrete j i) (λ (m : suc i ≤ j). gentle-no f (suc i) n j m (omega arith) e)
  where
    and_no : (x : Bool) → (x && false) ≡ false
    and_no true = refl
    and_no false = refl

    by : Dec (j ≡ i) → (suc i ≤ j → gentle_from f (suc i) n ≡ false) → (not (f i) && gentle_from f (suc i) n) ≡ false
    by (yes q) rec = rw (sym (ap f q) ∙ e)
    by (no q) rec = rw (rec (omega arith)) (and_no (not (f i)))

-- ---- the walk: the contours up to the end k have no point that is too steep; the next one starts at s
pub record Clear (o c : List ℤ) (t es : List ℕ) (s k : ℕ) : Type 0 where
  pub count : k ≤ length es
  pub within : s ≤ length o
  pub ends : ends_hold s (length o) (drop k es) ≡ true
  pub search : (i : ℕ) → s ≤ i → contour_of 0 es i ≡ contour_of s (drop k es) i
  pub gentle : (i : ℕ) → i < s → steep_on o c t (contour_of 0 es i) i ≡ false

pub clear_none : (o c : List ℤ) (t es : List ℕ) → ends_hold 0 (length o) es ≡ true → Clear o c t es 0 0
clear_none o c t es r = record { count = omega arith; within = omega arith; ends = r; search = λ i h. refl; gentle = λ i h. absurd (omega arith) }

-- one contour, from s up to its end e
module _ (o c : List ℤ) (t es : List ℕ) (lt : length t ≡ length o) (k s e : ℕ) (q : e ≡ get_or es k 0) (h : k < length es)
    (search : (i : ℕ) → s ≤ i → contour_of 0 es i ≡ contour_of s (drop k es) i)
    (ends : ends_hold s (length o) (drop k es) ≡ true) where
  bounds : EndAt s (length o) es k
  bounds = end-at s (length o) es k h ends

  -- a point of it in the whole lists and in its stretch
  pub own-steep : (m : ℕ) → m < e + 1 - s
      → steep_on o c t (contour_of 0 es (s + m)) (s + m) ≡ steep_at (part s (e + 1 - s) o) (part s (e + 1 - s) c) (part s (e + 1 - s) t)
      (whole (part s (e + 1 - s) t)) m
  unfolding steep_on
  own-steep m g =
      let n = e + 1 - s in
      let b = bounds in
      let f : s + n ≡ suc (get_or es k 0) = omega arith in
      let l : length (take n (drop s t)) ≡ n = mid_len s (e + 1) t (omega arith) in
      let a : steep_at o c t (stretch s n) (s + m) ≡ steep_on o c t (contour_of 0 es (s + m)) (s + m) =
      rw (search (s + m) (omega arith), contour-here s es k (s + m) h (omega arith), ← f) in
      sym a ∙ steep-part s n o c t m g ∙ ap (λ (x : ℕ). steep_at (part s n o) (part s n c) (part s n t) (record { start = 0; end = x }) m) (sym l)

  own-length : length (part s (e + 1 - s) t) ≡ e + 1 - s
  own-length = let b = bounds in mid_len s (e + 1) t (omega arith)

  -- where the outline is gentle, so is the contour
  pub own-gentle : GentleAll o c t es → Gentle (part s (e + 1 - s) o) (part s (e + 1 - s) c) (part s (e + 1 - s) t)
  own-gentle g i a =
      let b = bounds in
      let l = own-length in
      sym (own-steep i (omega arith)) ∙ g (s + i) (omega arith)

  module _ (r : Bool) (w : Tells (steep_at (part s (e + 1 - s) o) (part s (e + 1 - s) c) (part s (e + 1 - s) t) (whole (part s (e + 1 - s) t))) 0
      (length (part s (e + 1 - s) t)) r) where
    -- one is too steep
    pub clear-found : r ≡ true → true ≡ not (gentle o c t es)
    unfolding gentle
    clear-found y =
        let b = bounds in
        let l = own-length in
        let p = w.yes y in
        let m = p.high in
        rw (gentle-no (λ i. steep_on o c t (contour_of 0 es i) i) 0 (length o) (s + p.place) (omega arith) (omega arith)
        (own-steep p.place (omega arith) ∙ p.here))

    -- none is
    pub clear_next : r ≡ false → Clear o c t es s k → Clear o c t es (e + 1) (k + 1)
    clear_next n j =
        let b = bounds in
        record {
          count = omega arith;
          within = omega arith;
          ends = rw q b.rest;
          search = λ i g. search i (omega arith) ∙ contour-later s es k i h (omega arith) ∙ rw (← q, ← add-one e);
          gentle = λ i g. by i g (dec_lt i s);
        }
      where
        by : (i : ℕ) → i < e + 1 → Dec (i < s) → steep_on o c t (contour_of 0 es i) i ≡ false
        by i g (yes a) = j.gentle i a
        by i g (no a) =
            let b = bounds in
            let l = own-length in
            let f : s + (i - s) ≡ i = omega arith in
            rw f at (own-steep (i - s) (omega arith) ∙ w.no n (i - s) (omega arith) (omega arith))

-- behind the last contour no point is too steep
module _ (o c : List ℤ) (t es : List ℕ) (s k : ℕ) (j : Clear o c t es s k) (all : length es ≤ k) where
  each : (i : ℕ) → Dec (i < s) → steep_on o c t (contour_of 0 es i) i ≡ false
  unfolding steep_on contour_of
  each i (yes h) = j.gentle i h
  each i (no n) = rw (j.search i (omega arith), drop_of_length-le es all)

  pub clear-all : false ≡ not (gentle o c t es)
  unfolding gentle
  clear-all = rw (gentle-all (λ i. steep_on o c t (contour_of 0 es i) i) 0 (length o) (λ i a h. each i (dec_lt i s)))

-- ---- calm currents
-- no point by its references is too steep
module _ (o c : List ℤ) (t es : List ℕ) (ho : Coordinates o) (calm : Calm c) where
  calm-followed : (r : Option References) (i : ℕ) → steep_followed o c r i ≡ false
  unfolding steep_followed steep_by
  calm-followed none i = refl
  calm-followed (some r) i =
      calm-between (at o i) (at o (first_of o r)) (at c (first_of o r)) (at o (second_of o r)) (at c (second_of o r)) (ho (first_of o r)) (ho (second_of o r))
      (calm (first_of o r) (second_of o r))

  calm-on : (k : Option Contour) (i : ℕ) → steep_on o c t k i ≡ false
  unfolding steep_on steep_at
  calm-on none i = refl
  calm-on (some k) i = rw (calm-followed (references t k i) i) (and_none (not (is_touched t i)))
    where
      and_none : (x : Bool) → (x && false) ≡ false
      and_none true = refl
      and_none false = refl

  pub calm-gentle : false ≡ not (gentle o c t es)
  unfolding gentle
  calm-gentle = rw (gentle-all (λ i. steep_on o c t (contour_of 0 es i) i) 0 (length o) (λ i a h. calm-on (contour_of 0 es i) i))

-- ---- an outline near 0: no number refuses it
pub near-numbers : (o c : List ℤ) (t es : List ℕ) → all_near o c ≡ true → refusal (number_tests o c t es) ≡ 0
near-numbers o c t es e =
    let originals = and_first (coordinates_hold most_coordinate o) (coordinates_hold most_near c) e in
    let near = and_second (coordinates_hold most_coordinate o) (coordinates_hold most_near c) e in
    let ho = coordinates-of most_coordinate o originals in
    number-steep o c t es false originals (hold-more most_near most_coordinate c (omega arith) near)
    (calm-gentle o c t es (λ i. omega (arith, nat_abs-is (at o i), ho i)) (calm-near c near))

-- ---- refusal 8 is the paper's number of a quotient: that of an untouched point that lies strictly between its references
module _ (o c : List ℤ) (t es : List ℕ) (k : Contour) (r : References) (i : ℕ) (at-k : contour_of 0 es i ≡ some k) (free : is_touched t i ≡ false)
    (at-r : references t k i ≡ some r)
    (between : is_between (at o i) (at o (first_of o r)) (at o (second_of o r)) ≡ true) where
  abbrev rise : ℤ
  rise = at c (second_of o r) -ℤ at c (first_of o r)

  abbrev span : ℤ
  span = at o (second_of o r) -ℤ at o (first_of o r)

  pub quotient-told : i < length o → coordinates_hold most_coordinate o ≡ true → coordinates_hold most_coordinate c ≡ true
      → 0 < quotient_number (quotient_of rise span) → refusal (number_tests o c t es) ≡ quotient_number (quotient_of rise span)
  unfolding quotient_of steep_on steep_at steep_followed steep_by steep_between gentle
  quotient-told h ho hc n = by (too_steep rise span) refl
    where
      by : (b : Bool) → too_steep rise span ≡ b → refusal (number_tests o c t es) ≡ quotient_number (quotient_of rise span)
      by true e =
          let here : steep_on o c t (contour_of 0 es i) i ≡ true = rw (at-k, free, at-r, between, e) in
          let g = gentle-no (λ j. steep_on o c t (contour_of 0 es j) j) 0 (length o) i (omega arith) (omega arith) here in
          rw e (number-steep o c t es true ho hc (rw g))
      by false e = absurd (let z : 0 < 0 = rw e at n in omega arith)
