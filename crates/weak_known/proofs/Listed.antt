-- One turn of the loop over contours that aligns by the lists.
use mathlib.Core.Path.{◌≡◌, refl, sym, ◌∙◌, ap}
use mathlib.Core.Bool.{Bool, true, false, not, ◌&&◌}
use mathlib.Core.List.{List}
use mathlib.Core.Logic.{inl}
use mathlib.Core.Option.{some}
use Prim.Native.Nat.{ℕ, suc, ◌+◌, ◌-◌, ◌≤◌, ◌<◌}
use native.Mathlib.Decide.{dec_lt}
use native.Mathlib.Numerals.{add-one}
use native.Mathlib.Omega.{arith}
use lib.ListN.{length, get_or, drop, length-drop}
use lib.Seq.{ext_get_or, get_or-drop}
use lib.IntN.{ℤ, pos}
use Rattle.refusals.proofs.Tests.{and_first, and_second}
use Rattle.weak_contour.specs.Contour.{at, is_touched, references, weak_at, steep_at}
use Rattle.weak_contour.specs.Steps.{Coordinates, Wrote}
use Rattle.weak_contour.proofs.References.{refs-on}
use Rattle.weak.specs.Weak.{contour_of, steep_on, on_contour, aligned_at}
use Rattle.weak.specs.Steps.{GentleAll}
use Rattle.weak.proofs.Refusals.{EndAt, end-at}
use Rattle.weak.proofs.Contours.{Sofar, contour-here, contour-later}
use Rattle.weak_known.specs.Known.{same_as, matches, before_at, behind_at}
use Rattle.weak_known.specs.Walks.{contour, before_on, behind_on, Says, CoordinatesOn, GentleOn}
use Rattle.weak_known.proofs.Agreeing.{AgreeAt, followed_same, steep-same}
use Rattle.weak_known.proofs.Comparing.{same_at}
use Rattle.weak_known.proofs.Entries.{known-on}

-- a point of a contour reads the currents of the contour alone
pub weak-reads : (o c d : List ℤ) (t : List ℕ) (s e i : ℕ) → s ≤ i → i < e → ((j : ℕ) → s ≤ j → at d j ≡ at c j)
    → weak_at o d t (contour s e) i ≡ weak_at o c t (contour s e) i
unfolding weak_at
weak-reads o c d t s e i low high h = by (is_touched t i) refl
  where
    agree : AgreeAt c d (references t (contour s e) i)
    agree x r = let a = refs-on t (contour s e) i low high x r in (h x.before a.0.0, h x.behind a.1.0)

    by : (b : Bool) → is_touched t i ≡ b → weak_at o d t (contour s e) i ≡ weak_at o c t (contour s e) i
    by true m = rw m (h i low)
    by false m = rw m (followed_same o c d i (references t (contour s e) i) agree (inl (h i low)))

module _ (o c : List ℤ) (t es : List ℕ) (k s e : ℕ) (d : List ℤ) (q : e ≡ get_or es k 0) (h : k < length es) (j : Sofar o c t es d s k) where
  bounds : EndAt s (length o) es k
  bounds = end-at s (length o) es k h j.ends

  pub low : s < e + 1
  low = omega (arith, bounds.low)

  pub high : e + 1 ≤ length o
  high = omega (arith, bounds.high)

  -- the currents from s on are as they came
  pub kept : (i : ℕ) → s ≤ i → at d i ≡ at c i
  kept i a =
      let f : s + (i - s) ≡ i = omega arith in
      rw f at (sym (get_or-drop s d (i - s) (pos 0)) ∙ ap (λ (l : List ℤ). at l (i - s)) j.rest ∙ get_or-drop s c (i - s) (pos 0))

  pub on : (i : ℕ) → s ≤ i → i < e + 1 → contour_of 0 es i ≡ some (contour s (e + 1))
  on i a b =
      let g : suc (get_or es k 0) ≡ e + 1 = omega arith in
      j.search i a ∙ contour-here s es k i h (omega arith) ∙ ap (λ (x : ℕ). some (contour s x)) g

  pub coordinates-on : Coordinates c → CoordinatesOn d s (e + 1)
  coordinates-on r i a b = rw (kept i a) (r i)

  pub gentle-on : GentleAll o c t es → GentleOn o d t s (e + 1)
  unfolding steep_on steep_at
  gentle-on g i a b =
      let hi = high in
      let x : steep_at o c t (contour s (e + 1)) i ≡ false = rw (on i a b) at (g i (omega arith)) in
      ap (λ (y : Bool). not (is_touched t i) && y) (steep-same o c d i (references t (contour s (e + 1)) i) agree) ∙ x
    where
      agree : AgreeAt c d (references t (contour s (e + 1)) i)
      agree x r = let z = refs-on t (contour s (e + 1)) i a b x r in (kept x.before z.0.0, kept x.behind z.1.0)

  -- what matching lists say of the contour
  pub says : (b f : List ℕ) → length t ≡ length o → matches t es b f ≡ true → Says t b f s (e + 1)
  unfolding matches before_at behind_at before_on behind_on
  says b f lt m =
      let x = same_at b (before_at t es) 0 (length t) (and_first (same_as b (before_at t es) 0 (length t)) (same_as f (behind_at t es) 0 (length t)) m) in
      let y = same_at f (behind_at t es) 0 (length t) (and_second (same_as b (before_at t es) 0 (length t)) (same_as f (behind_at t es) 0 (length t)) m) in
      let hi = high in
      record {
        before = λ i u v. x i (omega arith) (omega arith) ∙ rw (known-on t es i (contour s (e + 1)) (on i u v));
        behind = λ i u v. y i (omega arith) (omega arith) ∙ rw (known-on t es i (contour s (e + 1)) (on i u v));
      }

  -- the turn
  module _ (g : List ℤ) (lc : length c ≡ length o) (w : Wrote (weak_at o d t (contour s (e + 1))) s (e + 1) d g) where
    next-rest : drop (e + 1) g ≡ drop (e + 1) c
    next-rest =
        let lo = low in
        ext_get_or (pos 0) (drop (e + 1) g) (drop (e + 1) c) (length-drop (e + 1) g ∙ ap (λ (x : ℕ). x - (e + 1)) (w.len ∙ j.len) ∙ sym (length-drop (e + 1) c))
        (λ i a. get_or-drop (e + 1) g i (pos 0) ∙ w.above (e + 1 + i) (omega arith) ∙ kept (e + 1 + i) (omega arith) ∙ sym (get_or-drop (e + 1) c i (pos 0)))

    next-aligned : (i : ℕ) → i < e + 1 → Dec (i < s) → at g i ≡ aligned_at o c t es i
    unfolding aligned_at on_contour
    next-aligned i a (yes b) = w.below i b ∙ j.aligned i b
    next-aligned i a (no n) = w.inside i (omega arith) a ∙ weak-reads o c d t s (e + 1) i (omega arith) a kept ∙ rw (on i (omega arith) a)

    pub sofar-round : Sofar o c t es g (e + 1) (k + 1)
    sofar-round =
        let b = bounds in
        record {
          count = omega arith;
          within = omega arith;
          len = w.len ∙ j.len;
          ends = rw q b.rest;
          search = λ i a. j.search i (omega arith) ∙ contour-later s es k i h (omega arith) ∙ rw (← q, ← add-one e);
          rest = next-rest;
          aligned = λ i a. next-aligned i a (dec_lt i s);
        }
