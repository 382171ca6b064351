-- All contours: what the loop over the contour ends has done.
use mathlib.Core.Path.{◌≡◌, refl, sym, ◌∙◌, ap}
use mathlib.Core.List.{List, [], ◌∷◌, ◌++◌}
use mathlib.Core.Option.{some}
use Prim.Native.Nat.{ℕ, suc, ◌+◌, ◌-◌, ◌≤◌, ◌<◌}
use native.Mathlib.Decide.{dec_lt}
use native.Mathlib.Numerals.{add-one}
use native.Mathlib.Omega.{arith}
use borrow.Author.Tests.{leb-true, leb-false, ltb-true, le-leb, lt-leb}
use borrow.Rule.Slice.PartMut.{put_mid, post_of, same_len_mid, drop_put, mid_len}
use mathlib.Core.Bool.{Bool, true, false, ◌&&◌}
use lib.Dec.{leb, ltb}
use lib.ListN.{length, get_or, take, drop, length-take, length-drop, drop_of_length-le, get_or-append, get_or-eq_default}
use lib.Seq.{get_or-take, get_or-drop, get_or-append-add, drop-drop, length-take-le}
use lib.IntN.{ℤ, pos}
use Rattle.weak_contour.specs.Contour.{at, Contour, weak_at}
use Rattle.weak.specs.Weak.{ends_hold, contour_of, on_contour, aligned_at}
use Rattle.weak_contour.specs.Steps.{Coordinate, Coordinates, Done}
use Rattle.weak.specs.Steps.{AllDone}
use Rattle.refusals.proofs.Tests.{and_first, and_second}
use Rattle.weak.proofs.Refusals.{drop-one, EndAt, end-at}
use Rattle.weak.proofs.Parts.{stretch, weak-part}

-- ---- the parts that are lent
-- they are as long as each other
pub part_length {ℓ ℓ'} : {A : Type ℓ} {B : Type ℓ'} (a : List A) (b : List B) (n s : ℕ) → length a ≡ length b
    → length (take n (drop s a)) ≡ length (take n (drop s b))
part_length a b n s e = simp (length-take, length-drop, e)

coordinate-at : (l : List ℤ) (n s : ℕ) → Coordinates l → (i : ℕ) → Dec (i < n) → Coordinate (at (take n (drop s l)) i)
coordinate-at l n s r i (yes h) = rw (get_or-take n (drop s l) i (pos 0) h, get_or-drop s l i (pos 0)) (r (s + i))
coordinate-at l n s r i (no g) = rw (get_or-eq_default (take n (drop s l)) (pos 0) {n = i} (rw (length-take n (drop s l)) (omega arith))) (omega arith)

-- a part of accepted coordinates
pub coordinates-part : (l : List ℤ) (n s : ℕ) → Coordinates l → Coordinates (take n (drop s l))
coordinates-part l n s r i = coordinate-at l n s r i (dec_lt i n)

-- ---- a part that came back, place by place
module _ (s e : ℕ) (xs ys : List ℤ) (order : s ≤ e) (fits : e ≤ length xs) (len : length ys ≡ e - s) where
  -- in front of it nothing changed
  put-below : (i : ℕ) → i < s → at (put_mid s (e - s) xs ys) i ≡ at xs i
  put-below i h =
      get_or-append (take s xs) (ys ++ post_of s (e - s) xs) (pos 0) i (rw (length-take-le s xs (omega arith)) h)
      ∙ get_or-take s xs i (pos 0) h

  -- in it stands what came back
  put-inside : (j : ℕ) → j < e - s → at (put_mid s (e - s) xs ys) (s + j) ≡ at ys j
  put-inside j h =
      let l : length (take s xs) ≡ s = length-take-le s xs (omega arith) in
      ap (λ (x : ℕ). at (put_mid s (e - s) xs ys) (x + j)) (sym l)
      ∙ get_or-append-add (take s xs) (ys ++ post_of s (e - s) xs) j (pos 0)
      ∙ get_or-append ys (post_of s (e - s) xs) (pos 0) j (omega arith)

-- ---- the search for a point's contour
module _ (s : ℕ) (es : List ℕ) (k i : ℕ) (more : k < length es) where
  -- a point that is not behind the end k is on the contour that ends there
  pub contour-here : i ≤ get_or es k 0 → contour_of s (drop k es) i ≡ some (record { start = s; end = suc (get_or es k 0) })
  unfolding contour_of
  contour-here h = rw (drop-one es k 0 more, le-leb i (get_or es k 0) h)

  -- a point behind it is on a later one
  pub contour-later : get_or es k 0 < i → contour_of s (drop k es) i ≡ contour_of (suc (get_or es k 0)) (drop (k + 1) es) i
  unfolding contour_of
  contour-later h = rw (drop-one es k 0 more, lt-leb i (get_or es k 0) h)

-- a contour holds its points, and they are points of the outline
pub record Holds (n i : ℕ) (k : Contour) : Type 0 where
  pub low : k.start ≤ i
  pub high : i < k.end
  pub points : k.end ≤ n

pub contour-holds : (s n i : ℕ) (es : List ℕ) (k : Contour) → s ≤ i → ends_hold s n es ≡ true → contour_of s es i ≡ some k → Holds n i k
unfolding ends_hold contour_of
contour-holds s n i [] k l h e = let z : ◌≡◌ {A = ℕ} 0 1 = cc in absurd (omega arith)
contour-holds s n i (x ∷ es) k l h e =
    let a = and_second (leb s x) (ltb x n && ends_hold (suc x) n es) h in
    by (leb i x) refl (ltb-true x n (and_first (ltb x n) (ends_hold (suc x) n es) a))
    (λ g. contour-holds (suc x) n i es k g (and_second (ltb x n) (ends_hold (suc x) n es) a))
  where
    by : (t : Bool) → leb i x ≡ t → x < n → (suc x ≤ i → contour_of (suc x) es i ≡ some k → Holds n i k) → Holds n i k
    by true q m rec =
        let f : some (record { start = s; end = suc x }) ≡ some k = rw q at e in
        let f1 : s ≡ k.start = cc in
        let f2 : suc x ≡ k.end = cc in
        record { low = omega arith; high = omega (arith, leb-true i x q); points = omega arith }
    by false q m rec = rec (leb-false i x q) (rw q at e)

-- ---- the loop
-- d is c with the contours up to the end k done; the next one starts at s
pub record Sofar (o c : List ℤ) (t es : List ℕ) (d : List ℤ) (s k : ℕ) : Type 0 where
  pub count : k ≤ length es
  pub within : s ≤ length o
  pub len : length d ≡ length c
  pub ends : ends_hold s (length o) (drop k es) ≡ true
  pub search : (i : ℕ) → s ≤ i → contour_of 0 es i ≡ contour_of s (drop k es) i
  pub rest : drop s d ≡ drop s c
  pub aligned : (i : ℕ) → i < s → at d i ≡ aligned_at o c t es i

-- before the first turn
pub sofar-none : (o c : List ℤ) (t es : List ℕ) → ends_hold 0 (length o) es ≡ true → Sofar o c t es c 0 0
sofar-none o c t es r =
    record { count = omega arith; within = omega arith; len = refl; ends = r; search = λ i h. refl; rest = refl; aligned = λ i h. absurd (omega arith) }

-- one turn
module _ (o c : List ℤ) (t es : List ℕ) (lc : length c ≡ length o) (lt : length t ≡ length o) (k s e : ℕ) (d own : List ℤ) (q : e ≡ get_or es k 0)
    (h : k < length es) (j : Sofar o c t es d s k)
    (w : Done (take (e + 1 - s) (drop s o)) (take (e + 1 - s) (drop s d)) (take (e + 1 - s) (drop s t)) own) where
  -- the contour's end keeps the rule
  bounds : EndAt s (length o) es k
  bounds = end-at s (length o) es k h j.ends

  own-length : length own ≡ e + 1 - s
  own-length = w.len ∙ mid_len s (e + 1) d (omega (arith, bounds, j.len))

  -- the contour's points in the whole lists
  own_at : (m : ℕ) → m < e + 1 - s → at own m ≡ aligned_at o c t es (s + m)
  unfolding aligned_at on_contour
  own_at m g =
      let n = e + 1 - s in
      let b = bounds in
      let f : s + n ≡ suc (get_or es k 0) = omega arith in
      let l : length (take n (drop s t)) ≡ n = mid_len s (e + 1) t (omega arith) in
      let p = rw (j.rest, l) at (w.each m (omega (arith, own-length, w.len))) in
      let a : weak_at o c t (stretch s n) (s + m) ≡ on_contour o c t (contour_of 0 es (s + m)) (s + m) =
      rw (j.search (s + m) (omega arith), contour-here s es k (s + m) h (omega arith), ← f) in
      p ∙ sym (weak-part s n o c t m g) ∙ a

  -- behind it nothing changed
  next-rest : drop (e + 1) d ≡ drop (e + 1) c
  next-rest =
      let b = bounds in
      let m : s + (e + 1 - s) ≡ e + 1 = omega arith in
      ap (λ (x : ℕ). drop x d) (sym m) ∙ sym (drop-drop (e + 1 - s) s d) ∙ ap (drop (e + 1 - s)) j.rest ∙ drop-drop (e + 1 - s) s c
      ∙ ap (λ (x : ℕ). drop x c) m

  -- all up to its end is aligned
  next-aligned : (i : ℕ) → i < e + 1 → Dec (i < s) → at (put_mid s (e + 1 - s) d own) i ≡ aligned_at o c t es i
  next-aligned i g (yes a) = let b = bounds in put-below s (e + 1) d own (omega arith) (omega (arith, j.len)) own-length i a ∙ j.aligned i a
  next-aligned i g (no n) =
      let b = bounds in
      let f : s + (i - s) ≡ i = omega arith in
      rw f at (put-inside s (e + 1) d own (omega arith) (omega (arith, j.len)) own-length (i - s) (omega arith) ∙ own_at (i - s) (omega arith))

  pub sofar-next : Sofar o c t es (put_mid s (e + 1 - s) d own) (e + 1) (k + 1)
  sofar-next =
      let b = bounds in
      record {
        count = omega arith;
        within = omega arith;
        len = same_len_mid s (e + 1 - s) d own w.len ∙ j.len;
        ends = rw q b.rest;
        search = λ i g. j.search i (omega arith) ∙ contour-later s es k i h (omega arith) ∙ rw (← q, ← add-one e);
        rest = drop_put s (e + 1) d own (omega arith) (omega (arith, j.len)) own-length ∙ next-rest;
        aligned = λ i g. next-aligned i g (dec_lt i s);
      }

-- behind the last contour the points stay
module _ (o c d : List ℤ) (t es : List ℕ) (s k : ℕ) (j : Sofar o c t es d s k) (all : length es ≤ k) where
  each : (i : ℕ) → Dec (i < s) → at d i ≡ aligned_at o c t es i
  unfolding aligned_at on_contour contour_of
  each i (yes h) = j.aligned i h
  each i (no n) =
      let f : s + (i - s) ≡ i = omega arith in
      let g : at d i ≡ at c i = rw f at (sym (get_or-drop s d (i - s) (pos 0)) ∙ ap (λ (l : List ℤ). at l (i - s)) j.rest ∙ get_or-drop s c (i - s) (pos 0)) in
      g ∙ rw (j.search i (omega arith), drop_of_length-le es all)

  pub sofar-all : AllDone o c t es d
  sofar-all = record { len = j.len; each = λ i h. each i (dec_lt i s) }
