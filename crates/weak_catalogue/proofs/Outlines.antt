-- The outlines of a catalogue one behind another: what the loop over them has done.
use mathlib.Core.Path.{◌≡◌, refl, sym, ◌∙◌, ap}
use mathlib.Core.List.{List, [], ◌∷◌, ◌++◌, append-nil, append_assoc}
use Prim.Native.Nat.{ℕ, ◌+◌, ◌-◌, ◌≤◌, ◌<◌}
use native.Mathlib.Numerals.{add-one}
use native.Mathlib.Omega.{arith}
use borrow.Rule.Slice.PartMut.{put_mid, post_of, same_len_mid, drop_put, mid_len}
use lib.ListN.{length, get_or, set, take, drop, length-set, length-append, drop_of_length-le}
use lib.Seq.{drop-drop, length-take-le, take_all, take_at, take-suc-set}
use lib.IntN.{ℤ}
use Rattle.refusals.specs.Refusal.{refusal}
use Rattle.weak.specs.Weak.{weak_tests, result, Outcome}
use Rattle.weak.proofs.Refusals.{drop-one}
use Rattle.weak.proofs.Determined.{result-length}
use Rattle.weak_catalogue.specs.Catalogue.{total, answers_of, currents_of}
use Rattle.weak_catalogue.specs.Steps.{AddsUp, EachDone}
use Rattle.weak_catalogue.proofs.Adding.{total-from, total-none}

-- ---- the outline j, whose counts are n and k, and those behind it
module _ (o c : List ℤ) (t es ns ks : List ℕ) (j n k : ℕ) (en : n ≡ get_or ns j 0) (ek : k ≡ get_or ks j 0) (h : j < length ns) (g : j < length ks) where
  answers_next : answers_of o c t es (drop j ns) (drop j ks)
      ≡ refusal (weak_tests (take n o) (take n c) (take n t) (take k es))
      ∷ answers_of (drop n o) (drop n c) (drop n t) (drop k es) (drop (j + 1) ns) (drop (j + 1) ks)
  unfolding answers_of
  answers_next = rw (drop-one ns j 0 h, drop-one ks j 0 g, en, ek)

  currents-next : currents_of o c t es (drop j ns) (drop j ks)
      ≡ result (take n o) (take n c) (take n t) (take k es) ++ currents_of (drop n o) (drop n c) (drop n t) (drop k es) (drop (j + 1) ns) (drop (j + 1) ks)
  unfolding currents_of
  currents-next = rw (drop-one ns j 0 h, drop-one ks j 0 g, en, ek)

-- behind the last
answers-none : (o c : List ℤ) (t es ns ks : List ℕ) (j : ℕ) → length ns ≤ j → answers_of o c t es (drop j ns) ks ≡ []
unfolding answers_of
answers-none o c t es ns ks j h = rw (drop_of_length-le ns h)

currents-none : (o c : List ℤ) (t es ns ks : List ℕ) (j : ℕ) → length ns ≤ j → currents_of o c t es (drop j ns) ks ≡ []
unfolding currents_of
currents-none o c t es ns ks j h = rw (drop_of_length-le ns h)

-- ---- the loop
-- d are the currents and rs the answers with the outlines up to j done; the next one has its points from s on and its contour ends from e on
pub record Sofar (o c : List ℤ) (t es ns ks bs : List ℕ) (d : List ℤ) (rs : List ℕ) (s e j : ℕ) : Type 0 where
  pub outlines : j ≤ length ns
  pub points : s + total (drop j ns) ≡ length o
  pub contours : e + total (drop j ks) ≡ length es
  pub kept : length d ≡ length c
  pub filled : length rs ≡ length bs
  pub currents : currents_of o c t es ns ks ≡ take s d ++ currents_of (drop s o) (drop s d) (drop s t) (drop e es) (drop j ns) (drop j ks)
  pub answers : answers_of o c t es ns ks ≡ take j rs ++ answers_of (drop s o) (drop s d) (drop s t) (drop e es) (drop j ns) (drop j ks)

module _ (o c : List ℤ) (t es ns ks bs : List ℕ) (good : AddsUp o c t es ns ks bs) where
  -- before the first turn
  pub sofar-none : Sofar o c t es ns ks bs c bs 0 0 0
  sofar-none = record {
    outlines = omega arith;
    points = omega (arith, good.points);
    contours = omega (arith, good.contours);
    kept = refl;
    filled = refl;
    currents = refl;
    answers = refl;
  }

  module _ (d : List ℤ) (rs : List ℕ) (s e j : ℕ) (i : Sofar o c t es ns ks bs d rs s e j) where
    -- the parts that a turn lends are there
    pub record Within (n k : ℕ) : Type 0 where
      pub points : s + n ≤ length o
      pub marks : s + n ≤ length t
      pub currents : s + n ≤ length d
      pub contours : e + k ≤ length es

    pub within : (n k : ℕ) → n ≡ get_or ns j 0 → k ≡ get_or ks j 0 → j < length rs → Within n k
    within n k en ek h =
        let p = total-from ns j (omega (arith, i.filled, good.point-counts)) in
        let q = total-from ks j (omega (arith, i.filled, good.contour-counts)) in
        record {
          points = omega (arith, i.points);
          marks = omega (arith, i.points, good.marks_length);
          currents = omega (arith, i.points, i.kept, good.currents_length);
          contours = omega (arith, i.contours);
        }

    -- one turn: the outline's counts are n and k, its answer is a, and own are its currents at the end
    module _ (n k a : ℕ) (own : List ℤ) (en : n ≡ get_or ns j 0) (ek : k ≡ get_or ks j 0) (h : j < length rs)
        (w : Outcome (take (s + n - s) (drop s o)) (take (s + n - s) (drop s d)) (take (s + n - s) (drop s t)) (take (e + k - e) (drop e es)) a own) where
      more : j < length ns
      more = omega (arith, i.filled, good.point-counts)

      more-contours : j < length ks
      more-contours = omega (arith, i.filled, good.contour-counts)

      inside : Within n k
      inside = within n k en ek h

      alone : Outcome (take n (drop s o)) (take n (drop s d)) (take n (drop s t)) (take k (drop e es)) a own
      alone = let p : s + n - s ≡ n = omega arith in let q : e + k - e ≡ k = omega arith in rw (p, q) at w

      len : length own ≡ length (take (s + n - s) (drop s d))
      len = ap length w.currents ∙ result-length _ _ _ _

      own-length : length own ≡ s + n - s
      own-length = len ∙ mid_len s (s + n) d inside.currents

      -- what is done, and what is left
      abbrev now : List ℤ
      now = put_mid s (s + n - s) d own

      done-currents : take s d ++ own ≡ take (s + n) now
      done-currents =
          let x = inside.currents in
          let l : length (take s d ++ own) ≡ s + n = length-append (take s d) own ∙ omega (arith, length-take-le s d (omega arith), own-length) in
          sym (ap (take (s + n)) (sym (append_assoc (take s d) own (post_of s (s + n - s) d))) ∙ take_at (take s d ++ own) (post_of s (s + n - s) d) (s + n) l)

      left-currents : drop n (drop s d) ≡ drop (s + n) now
      left-currents = let x = inside.currents in drop-drop n s d ∙ sym (drop_put s (s + n) d own (omega arith) (omega arith) own-length)

      done-answers : take j rs ++ (a ∷ []) ≡ take (j + 1) (set rs j a)
      done-answers = sym (ap (λ (x : ℕ). take x (set rs j a)) (add-one j) ∙ take-suc-set rs j a h)

      next-currents : currents_of o c t es ns ks ≡ take (s + n) now ++ currents_of (drop (s + n) o) (drop (s + n) now) (drop (s + n) t) (drop (e + k) es)
          (drop (j + 1) ns) (drop (j + 1) ks)
      next-currents =
          i.currents
          ∙ ap (λ (l : List ℤ). take s d ++ l) (currents-next (drop s o) (drop s d) (drop s t) (drop e es) ns ks j n k en ek more more-contours)
          ∙ ap (λ (l : List ℤ). take s d ++ (l ++ currents_of (drop n (drop s o)) (drop n (drop s d)) (drop n (drop s t)) (drop k (drop e es))
          (drop (j + 1) ns) (drop (j + 1) ks))) (sym alone.currents)
          ∙ sym (append_assoc (take s d) own (currents_of (drop n (drop s o)) (drop n (drop s d)) (drop n (drop s t)) (drop k (drop e es)) (drop (j + 1) ns)
          (drop (j + 1) ks)))
          ∙ (λ x. done-currents x ++ currents_of (drop-drop n s o x) (left-currents x) (drop-drop n s t x) (drop-drop k e es x) (drop (j + 1) ns)
          (drop (j + 1) ks))

      next-answers : answers_of o c t es ns ks
          ≡ take (j + 1) (set rs j a) ++ answers_of (drop (s + n) o) (drop (s + n) now) (drop (s + n) t) (drop (e + k) es) (drop (j + 1) ns) (drop (j + 1) ks)
      next-answers =
          i.answers
          ∙ ap (λ (l : List ℕ). take j rs ++ l) (answers_next (drop s o) (drop s d) (drop s t) (drop e es) ns ks j n k en ek more more-contours)
          ∙ ap (λ (x : ℕ). take j rs ++ (x ∷ answers_of (drop n (drop s o)) (drop n (drop s d)) (drop n (drop s t)) (drop k (drop e es)) (drop (j + 1) ns)
          (drop (j + 1) ks))) (sym alone.answer)
          ∙ sym (append_assoc (take j rs) (a ∷ []) (answers_of (drop n (drop s o)) (drop n (drop s d)) (drop n (drop s t)) (drop k (drop e es))
          (drop (j + 1) ns) (drop (j + 1) ks)))
          ∙ (λ x. done-answers x ++ answers_of (drop-drop n s o x) (left-currents x) (drop-drop n s t x) (drop-drop k e es x) (drop (j + 1) ns)
          (drop (j + 1) ks))

      pub sofar-next : Sofar o c t es ns ks bs (put_mid s (s + n - s) d own) (set rs j a) (s + n) (e + k) (j + 1)
      sofar-next = record {
        outlines = omega (arith, more);
        points = omega (arith, i.points, total-from ns j more);
        contours = omega (arith, i.contours, total-from ks j more-contours);
        kept = same_len_mid s (s + n - s) d own len ∙ i.kept;
        filled = length-set rs j a ∙ i.filled;
        currents = next-currents;
        answers = next-answers;
      }

    -- behind the last outline
    pub sofar-all : length rs ≤ j → EachDone o c t es ns ks d rs
    sofar-all h =
        let l : length ns ≤ j = omega (arith, i.filled, good.point-counts) in
        let f = i.points ∙ sym good.currents_length ∙ sym i.kept in
        record {
          currents =
              sym
              (i.currents ∙ ap (λ (x : List ℤ). take s d ++ x) (currents-none (drop s o) (drop s d) (drop s t) (drop e es) ns (drop j ks) j l)
              ∙ append-nil (take s d)
              ∙ take_all s d (omega (arith, f, total-none ns j l)));
          answers =
              sym
              (i.answers ∙ ap (λ (x : List ℕ). take j rs ++ x) (answers-none (drop s o) (drop s d) (drop s t) (drop e es) ns (drop j ks) j l)
              ∙ append-nil (take j rs) ∙ take_all j rs h);
        }
