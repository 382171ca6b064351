-- The refusals: each test one element at a time, the answers in their order, and what an accepted outline is.
use mathlib.Core.Path.{◌≡◌, refl, sym, ap, ◌∙◌}
use mathlib.Core.Bool.{Bool, true, false, not, cond, ◌&&◌}
use mathlib.Core.List.{List, [], ◌∷◌}
use Prim.Native.Nat.{ℕ, zero, suc, ◌+◌, ◌≤◌, ◌<◌}
use native.Mathlib.Decide.{dec_lt}
use native.Mathlib.Numerals.{add-one}
use native.Mathlib.Omega.{arith}
use borrow.Author.Tests.{ltb-true, leb-true, eqb-true, lt-ltb, le-ltb, le-leb, lt-leb, eq-eqb, ne_eqb}
use lib.Dec.{leb, ltb}
use lib.ListN.{length, get_or, drop, drop_of_length-le}
use lib.Seq.{drop-cons}
use lib.IntN.{ℤ, pos, nat_abs, ◌-ℤ◌}
use lib.Signed.{lt_z, le_z, ◌≤ℤ◌}
use Rattle.signed.proofs.Signed.{nat_abs-is, one-zero, sub-law, signed}
use Rattle.signed.proofs.Choices.{cond-true, cond-false}
use Rattle.std.specs.Prelude.{Result, Ok, Err}
use Rattle.std.specs.Result.{IsErrAnd}
use Rattle.refusals.specs.declared.order.Refusal.{Refusal}
use Rattle.refusals.specs.Outcome.{answer_of}
use Rattle.refusals.proofs.Outcomes.{number-above}
use Rattle.refusals.specs.Refusal.{Test, ◌unless◌, refusal, bad_index, out_of_range, steep}
use Rattle.refusals.proofs.Tests.{and_first, and_second, all_hold, no-refusal}
use Rattle.weak_contour.specs.Limits.{most_points, most_coordinate}
use Rattle.weak_contour.specs.Contour.{at}
use Rattle.weak.specs.Weak.{
  ends_hold,
  coordinate_holds,
  coordinates_hold,
  list_tests,
  range_tests,
  outline_tests,
  contour_of,
  steep_on,
  gentle_from,
  gentle,
  number_tests,
  weak_tests,
}
use Rattle.weak.specs.Steps.{Accepted, GentleAll, most_near, all_near}

-- a list from its element i on
pub drop-one {ℓ} : {A : Type ℓ} (l : List A) (i : ℕ) (d : A) → i < length l → drop i l ≡ get_or l i d ∷ drop (i + 1) l
drop-one l i d h = rw (add-one, drop-cons l i d)

-- ---- coordinates
-- a number below the range
pub coordinate-low : (most x : ℤ) → pos 0 ≤ℤ most → lt_z x (pos 0 -ℤ most) ≡ true → coordinate_holds (nat_abs most) x ≡ false
unfolding coordinate_holds
coordinate-low most x h e =
    lt-leb (nat_abs x) (nat_abs most) (omega (arith, signed, nat_abs-is x, nat_abs-is most, one-zero most, one-zero x, sub-law (pos 0) most))

-- a number that is not below the range
pub coordinate-high : (most x : ℤ) → pos 0 ≤ℤ most → lt_z x (pos 0 -ℤ most) ≡ false → le_z x most ≡ coordinate_holds (nat_abs most) x
unfolding coordinate_holds
coordinate-high most x h e = by (le_z x most) refl
  where
    by : (b : Bool) → le_z x most ≡ b → b ≡ leb (nat_abs x) (nat_abs most)
    by true q = sym (le-leb (nat_abs x) (nat_abs most) (omega (arith, signed, nat_abs-is x, nat_abs-is most, one-zero most, one-zero x, sub-law (pos 0) most)))
    by false q = sym (lt-leb (nat_abs x) (nat_abs most) (omega (arith, signed, nat_abs-is x, nat_abs-is most, one-zero most, one-zero x, sub-law (pos 0) most)))

-- a test's answer, gathered with those before it
pub coordinates-next : (most : ℕ) (l : List ℤ) (i : ℕ) (before here : Bool) → i < length l → here ≡ coordinate_holds most (at l i)
    → (before && coordinates_hold most (drop i l)) ≡ ((before && here) && coordinates_hold most (drop (i + 1) l))
unfolding coordinates_hold
coordinates-next most l i true here h e = rw (drop-one l i (pos 0) h, e)
coordinates-next most l i false here h e = refl

-- behind the last nothing is left to test
pub coordinates-end : (most : ℕ) (l : List ℤ) (i : ℕ) (before : Bool) → length l ≤ i → (before && coordinates_hold most (drop i l)) ≡ before
unfolding coordinates_hold
coordinates-end most l i true h = rw (drop_of_length-le l h)
coordinates-end most l i false h = refl

-- what passes is accepted
coordinate-of : (most : ℕ) (x : ℤ) → coordinate_holds most x ≡ true → nat_abs x ≤ most
unfolding coordinate_holds
coordinate-of most x e = leb-true (nat_abs x) most e

-- a list that passes is accepted
pub coordinates-of : (most : ℕ) (l : List ℤ) → coordinates_hold most l ≡ true → (i : ℕ) → nat_abs (at l i) ≤ most
unfolding coordinates_hold
coordinates-of most [] e i = omega arith
coordinates-of most (x ∷ l) e zero = coordinate-of most x (and_first (coordinate_holds most x) (coordinates_hold most l) e)
coordinates-of most (x ∷ l) e (suc i) = coordinates-of most l (and_second (coordinate_holds most x) (coordinates_hold most l) e) i

-- what is within a limit is within a larger one
holds_more : (m n : ℕ) (z : ℤ) → m ≤ n → coordinate_holds m z ≡ true → coordinate_holds n z ≡ true
unfolding coordinate_holds
holds_more m n z h e = let l = leb-true (nat_abs z) m e in le-leb (nat_abs z) n (omega arith)

pub hold-more : (m n : ℕ) (l : List ℤ) → m ≤ n → coordinates_hold m l ≡ true → coordinates_hold n l ≡ true
unfolding coordinates_hold
hold-more m n [] h e = refl
hold-more m n (z ∷ l) h e =
    rw (
      holds_more m n z h (and_first (coordinate_holds m z) (coordinates_hold m l) e),
      hold-more m n l h
          (and_second (coordinate_holds m z) (coordinates_hold m l) e),
    )

-- near 0: a test of the originals that fails, and one that leaves it to the currents
pub near-not : (o c : List ℤ) → coordinates_hold most_coordinate o ≡ false → false ≡ all_near o c
near-not o c e = rw e

pub near-then : (o c : List ℤ) (b : Bool) → coordinates_hold most_coordinate o ≡ true → b ≡ coordinates_hold most_near c → b ≡ all_near o c
near-then o c b e q = rw (e, q)

-- ---- contour ends
-- the test from the end k on, where the contour starts at s: an end in front of its start
pub ends_low : (s n : ℕ) (es : List ℕ) (k : ℕ) → k < length es → get_or es k 0 < s → ends_hold s n (drop k es) ≡ false
unfolding ends_hold
ends_low s n es k h l = rw (drop-one es k 0 h, lt-leb s (get_or es k 0) l)

-- an end that is not below the count
pub ends-high : (s n : ℕ) (es : List ℕ) (k : ℕ) → k < length es → s ≤ get_or es k 0 → n ≤ get_or es k 0 → ends_hold s n (drop k es) ≡ false
unfolding ends_hold
ends-high s n es k h l m = rw (drop-one es k 0 h, le-leb s (get_or es k 0) l, le-ltb (get_or es k 0) n m)

-- an end that keeps the rule hands over to the rest
pub ends_on : (s n : ℕ) (es : List ℕ) (k : ℕ) → k < length es → s ≤ get_or es k 0 → get_or es k 0 < n
    → ends_hold s n (drop k es) ≡ ends_hold (get_or es k 0 + 1) n (drop (k + 1) es)
unfolding ends_hold
ends_on s n es k h l m = rw (drop-one es k 0 h, le-leb s (get_or es k 0) l, lt-ltb (get_or es k 0) n m, add-one (get_or es k 0))

-- behind the last nothing is left to test
pub ends-end : (s n : ℕ) (es : List ℕ) (k : ℕ) → length es ≤ k → ends_hold s n (drop k es) ≡ true
unfolding ends_hold
ends-end s n es k h = rw (drop_of_length-le es h)

-- what the rule says of the end k
pub record EndAt (s n : ℕ) (es : List ℕ) (k : ℕ) : Type 0 where
  pub low : s ≤ get_or es k 0
  pub high : get_or es k 0 < n
  pub rest : ends_hold (get_or es k 0 + 1) n (drop (k + 1) es) ≡ true

-- an end of ends that hold
pub end-at : (s n : ℕ) (es : List ℕ) (k : ℕ) → k < length es → ends_hold s n (drop k es) ≡ true → EndAt s n es k
unfolding ends_hold
end-at s n es k h r =
    let e = get_or es k 0 in
    let rest = ends_hold (suc e) n (drop (k + 1) es) in
    let r1 : leb s e && (ltb e n && rest) ≡ true = rw (drop-one es k 0 h) at r in
    let r2 = and_second (leb s e) (ltb e n && rest) r1 in
    record {
      low = leb-true s e (and_first (leb s e) (ltb e n && rest) r1);
      high = ltb-true e n (and_first (ltb e n) rest r2);
      rest = rw add-one
          (and_second (ltb e n) rest r2);
    }

-- ---- the answers, in their order
-- the first test that fails decides, and one that holds leaves it to the rest
test-fails : (n : ℕ) (h : Bool) (ts : List Test) → h ≡ false → refusal (n unless h ∷ ts) ≡ n
unfolding refusal
test-fails n h ts e = cond-false h (refusal ts) n e

test-holds : (n : ℕ) (h : Bool) (ts : List Test) → h ≡ true → refusal (n unless h ∷ ts) ≡ refusal ts
unfolding refusal
test-holds n h ts e = cond-true h (refusal ts) n e

-- the last test
test-last : (n : ℕ) (h b : Bool) → h ≡ b → refusal (n unless h ∷ []) ≡ cond b 0 n
unfolding refusal
test-last n h b e = ap (λ (x : Bool). cond x 0 n) e

-- ---- by its lists and contour ends
module _ (o c : List ℤ) (t es : List ℕ) where
  -- too many points
  pub refused-long : most_points < length o → refusal (list_tests o c t es) ≡ 1
  refused-long h = test-fails _ _ _ (lt-leb (length o) most_points h)

  module _ (h : length o ≤ most_points) where
    -- second coordinates of another length
    pub refused-currents : (length c ≡ length o → ⊥) → refusal (list_tests o c t es) ≡ 1
    refused-currents n = test-holds _ _ _ (le-leb (length o) most_points h) ∙ test-fails _ _ _ (ne_eqb (length c) (length o) n)

    -- marks of another length
    pub refused-marks : length c ≡ length o → (length t ≡ length o → ⊥) → refusal (list_tests o c t es) ≡ 1
    refused-marks e n =
        test-holds _ _ _ (le-leb (length o) most_points h) ∙ test-holds _ _ _ (eq-eqb (length c) (length o) e)
        ∙ test-fails _ _ _ (ne_eqb (length t) (length o) n)

  module _ (h : length o ≤ most_points) (ec : length c ≡ length o) (et : length t ≡ length o) where
    -- a contour end that breaks the rule, or none
    pub ends-refuse : (b : Bool) → ends_hold 0 (length o) es ≡ b → refusal (list_tests o c t es) ≡ cond b 0 bad_index
    ends-refuse b r =
        test-holds _ _ _ (le-leb (length o) most_points h)
        ∙ test-holds _ _ _ (eq-eqb (length c) (length o) ec)
        ∙ test-holds _ _ _ (eq-eqb (length t) (length o) et)
        ∙ test-last bad_index _ b r

-- ---- by its coordinates
module _ (most : ℕ) (o c : List ℤ) where
  -- a first coordinate outside the range
  pub refused-originals : coordinates_hold most o ≡ false → refusal (range_tests most o c) ≡ 4
  refused-originals a = test-fails _ _ _ a

  -- a second coordinate outside the range, or none
  pub currents-refuse : (b : Bool) → coordinates_hold most o ≡ true → coordinates_hold most c ≡ b → refusal (range_tests most o c) ≡ cond b 0 out_of_range
  currents-refuse b a r = test-holds _ _ _ a ∙ test-last out_of_range _ b r

-- ---- what is not refused
not-no : (b : Bool) → not b ≡ true → b ≡ false
not-no true e = absurd (let z : ◌≡◌ {A = ℕ} 0 1 = cc in omega arith)
not-no false e = refl

-- an outline of whose tests none fails
pub record Passed (most : ℕ) (o c : List ℤ) (t es : List ℕ) : Type 0 where
  pub points : length o ≤ most_points
  pub seconds_length : length c ≡ length o
  pub marks_length : length t ≡ length o
  pub ends : ends_hold 0 (length o) es ≡ true
  pub firsts : (i : ℕ) → nat_abs (at o i) ≤ most
  pub seconds : (i : ℕ) → nat_abs (at c i) ≤ most

pub passed : (most : ℕ) (o c : List ℤ) (t es : List ℕ) → refusal (outline_tests most o c t es) ≡ 0 → Passed most o c t es
passed most o c t es e =
    let long = all_hold (outline_tests most o c t es) refl e in
    let marks = long.1.1 in
    let firsts = marks.1.1 in
    record {
      points = leb-true (length o) most_points long.0;
      seconds_length = eqb-true (length c) (length o) long.1.0;
      marks_length = eqb-true (length t) (length o) marks.0;
      ends = marks.1.0;
      firsts = coordinates-of most o firsts.0;
      seconds = coordinates-of most c firsts.1.0;
    }

-- no point from i on is too steep where the test says so
gentle-at : (f : ℕ → Bool) (i n : ℕ) → gentle_from f i n ≡ true → (j : ℕ) → i ≤ j → j < i + n → f j ≡ false
unfolding gentle_from
gentle-at f i zero e j l h = absurd (omega arith)
gentle-at f i (suc n) e j l h = by (dec_lt i j) (λ m. gentle-at f (suc i) n (and_second (not (f i)) (gentle_from f (suc i) n) e) j m (omega arith))
  where
    by : Dec (i < j) → (i < j → f j ≡ false) → f j ≡ false
    by (yes m) rec = rec m
    by (no m) rec = let q : j ≡ i = omega arith in rw q (not-no (f i) (and_first (not (f i)) (gentle_from f (suc i) n) e))

-- an outline that lists, contour ends and coordinates pass is accepted
pub accepted-front : (o c : List ℤ) (t es : List ℕ) → refusal (list_tests o c t es) ≡ 0 → coordinates_hold most_coordinate o ≡ true
    → coordinates_hold most_coordinate c ≡ true → Accepted o c t es
accepted-front o c t es e originals currents =
    let all = all_hold (list_tests o c t es) refl e in
    let ho = coordinates-of most_coordinate o originals in
    let hc = coordinates-of most_coordinate c currents in
    record {
      points = leb-true (length o) most_points all.0;
      currents_length = eqb-true (length c) (length o) all.1.0;
      marks_length = eqb-true (length t) (length o) all.1.1.0;
      ends = all.1.1.1.0;
      originals = λ i. omega (arith, nat_abs-is (at o i), ho i);
      currents = λ i. omega (arith, nat_abs-is (at c i), hc i);
    }

-- an outline that is answered by 0 is accepted
pub accepted : (o c : List ℤ) (t es : List ℕ) → refusal (weak_tests o c t es) ≡ 0 → Accepted o c t es
accepted o c t es e =
    let all = all_hold (weak_tests o c t es) refl e in
    let ends = all.1.1.1 in
    accepted-front o c t es (no-refusal (list_tests o c t es) (all.0, (all.1.0, (all.1.1.0, (ends.0, refl))))) ends.1.0 ends.1.1.0

-- and none of its points is too steep
pub accepted-gentle : (o c : List ℤ) (t es : List ℕ) → refusal (weak_tests o c t es) ≡ 0 → GentleAll o c t es
unfolding gentle
accepted-gentle o c t es e i h =
    let all = all_hold (weak_tests o c t es) refl e in
    gentle-at (λ j. steep_on o c t (contour_of 0 es j) j) 0 (length o) all.1.1.1.1.1.1.0 i (omega arith) (omega arith)

-- ---- by the numbers of weak points
module _ (o c : List ℤ) (t es : List ℕ) where
  -- an original outside the range
  pub number-originals : coordinates_hold most_coordinate o ≡ false → refusal (number_tests o c t es) ≡ out_of_range
  number-originals a = test-fails _ _ _ a

  -- a current outside it
  pub number-currents : coordinates_hold most_coordinate o ≡ true → coordinates_hold most_coordinate c ≡ false → refusal (number_tests o c t es) ≡ out_of_range
  number-currents a b = test-holds _ _ _ a ∙ test-fails _ _ _ b

  -- a point that is too steep, or none
  pub number-steep : (b : Bool) → coordinates_hold most_coordinate o ≡ true → coordinates_hold most_coordinate c ≡ true → b ≡ not (gentle o c t es)
      → refusal (number_tests o c t es) ≡ cond b steep 0
  number-steep b a r g = test-holds _ _ _ a ∙ test-holds _ _ _ r ∙ by (gentle o c t es) refl g
    where
      by : (h : Bool) → gentle o c t es ≡ h → b ≡ not h → refusal (steep unless gentle o c t es ∷ []) ≡ cond b steep 0
      by true q e = test-last steep (gentle o c t es) true q ∙ rw e
      by false q e = test-last steep (gentle o c t es) false q ∙ rw e

-- ---- the exit of a `?`
-- what it hands on has a number above 0
pub exit-above : {T : Type 0} (e : Refusal) (o : Result T Refusal) → IsErrAnd o (λ (y : Refusal). y ≡ e) → 0 < answer_of o
exit-above e (Ok x) h = absurd h
exit-above e (Err y) h = number-above y
