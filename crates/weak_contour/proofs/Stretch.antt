-- One contour, on its stretch of the lists: what the steps make of its points.
use mathlib.Core.Path.{◌≡◌, refl, sym, ◌∙◌}
use mathlib.Core.Bool.{Bool, true, false}
use mathlib.Core.List.{List}
use mathlib.Core.Logic.{◌⊎◌, inl, inr}
use Prim.Native.Nat.{ℕ, ◌+◌, ◌≤◌, ◌<◌}
use native.Mathlib.Decide.{dec_lt, ℕ_discrete}
use native.Mathlib.Nat.{eq-or-lt_of_le, le_refl}
use native.Mathlib.Omega.{arith}
use lib.ListN.{length, get_or}
use lib.IntN.{ℤ}
use lib.Signed.{lt_z}
use Rattle.weak_contour.specs.Contour.{at, refs, first_of, second_of, between_at, shifted_at, weak_at, steep_by}
use Rattle.weak_contour.specs.Steps.{whole, Next, Wrote, Upto, Done, Gentle, GentleRefs}
use Rattle.weak_contour.proofs.References.{refs-gap, refs-behind, refs-front, refs-none}
use Rattle.weak_contour.proofs.Shifts.{shifted-own}
use Rattle.weak_contour.proofs.Points.{weak-touched, weak-two, weak-one, weak-none, steep-two}

-- ---- the gaps between touched points
-- at the first touched point nothing is left behind
pub upto-first : (o c : List ℤ) (t : List ℕ) (f : ℕ) → f < length t → 0 < get_or t f 0 → Upto o c t f f c
upto-first o c t f h m =
    record {
      len = refl;
      low = le_refl f;
      high = h;
      mark = m;
      inside = λ i a b. let e : i ≡ f = omega arith in rw e (sym (weak-touched o c t (whole t) f m));
      below = λ i a. refl;
      above = λ i a. refl;
    }

-- `between_at` looks at the currents of the references alone
between-by : (o c d : List ℤ) (p q i : ℕ) → at d p ≡ at c p → at d q ≡ at c q → between_at o d (refs p q) i ≡ between_at o c (refs p q) i
unfolding between_at first_of second_of
between-by o c d p q i ep eq = by (lt_z (at o q) (at o p)) refl
  where
    by : (b : Bool) → lt_z (at o q) (at o p) ≡ b → between_at o d (refs p q) i ≡ between_at o c (refs p q) i
    by true e = rw (e, ep, eq)
    by false e = rw (e, ep, eq)

-- and so does `steep_by`
steep-by : (o c d : List ℤ) (p q i : ℕ) → at d p ≡ at c p → at d q ≡ at c q → steep_by o d (refs p q) i ≡ steep_by o c (refs p q) i
unfolding steep_by first_of second_of
steep-by o c d p q i ep eq = by (lt_z (at o q) (at o p)) refl
  where
    by : (b : Bool) → lt_z (at o q) (at o p) ≡ b → steep_by o d (refs p q) i ≡ steep_by o c (refs p q) i
    by true e = rw (e, ep, eq)
    by false e = rw (e, ep, eq)

-- from one touched point, p, to the next, q
module _ (o c d : List ℤ) (t : List ℕ) (f p q : ℕ) (u : Upto o c t f p d) (x : Next t (p + 1) q) where
  -- their currents are as they came
  pub at_p : at d p ≡ at c p
  at_p = u.inside p u.low (le_refl p) ∙ weak-touched o c t (whole t) p u.mark

  pub at-q : at d q ≡ at c q
  at-q = u.above q (omega (arith, x.low))

  -- no point between them is too steep where no point of the contour is
  pub gentle-gap : Gentle o c t → q < length t → GentleRefs o d (refs p q) (p + 1) q
  gentle-gap g h i a b =
      steep-by o c d p q i at_p at-q
      ∙ steep-two o c t (whole t) i p q (x.clear i b a)
      (refs-gap t (whole t) i (omega arith) (omega arith) p q (omega arith) (omega arith) b h u.mark (x.here h) (λ j y z. x.clear j y (omega arith)))
      (g i (omega arith))

  module _ (e : List ℤ) (h : q < length t) (w : Wrote (between_at o d (refs p q)) (p + 1) q d e) where
    -- the gap between them is written
    step-mid : (i : ℕ) → f ≤ i → i < q → Dec (i < p + 1) → at e i ≡ weak_at o c t (whole t) i
    step-mid i a b (yes l) = w.below i l ∙ u.inside i a (omega arith)
    step-mid i a b (no n) =
        w.inside i (omega arith) b ∙ between-by o c d p q i at_p at-q
        ∙ sym
        (weak-two o c t (whole t) i p q (x.clear i b (omega arith))
        (refs-gap t (whole t) i (omega arith) (omega arith) p q (omega arith) (omega arith) b h u.mark (x.here h) (λ j y z. x.clear j y (omega arith)))
        (omega arith))

    step-inside : (i : ℕ) → f ≤ i → (i ≡ q) ⊎ (i < q) → at e i ≡ weak_at o c t (whole t) i
    step-inside i a (inl g) = rw g (w.above q (le_refl q) ∙ at-q ∙ sym (weak-touched o c t (whole t) q (x.here h)))
    step-inside i a (inr b) = step-mid i a b (dec_lt i (p + 1))

    -- so that all up to q is aligned
    pub upto_next : Upto o c t f q e
    upto_next =
        record {
          len = w.len ∙ u.len;
          low = omega (arith, u.low, x.low);
          high = h;
          mark = x.here h;
          inside = λ i a b. step-inside i a (eq-or-lt_of_le b);
          below = λ i a. w.below i (omega (arith, u.low)) ∙ u.below i a;
          above = λ i a. w.above i (omega arith) ∙ u.above i (omega (arith, x.low));
        }

-- ---- the whole contour
module _ (o c : List ℤ) (t : List ℕ) where
  -- none touched
  pub done_none : length t ≡ length c → Next t 0 (length t) → Done o c t c
  done_none e x =
      record {
        len = refl;
        each =
            λ i h. sym (weak-none o c t (whole t) i (x.clear i (omega arith) (omega arith)) (refs-none t (whole t) i (omega arith) (omega arith) x.clear));
      }

  -- one touched
  module _ (p : ℕ) (d e : List ℤ) (lt : length t ≡ length c) (x0 : Next t 0 p) (u : Upto o c t p p d) (x1 : Next t (p + 1) (length t))
      (a : Wrote (shifted_at o d p) 0 (length t) d e) where
    shifted_by : (i : ℕ) → at d i ≡ at c i → shifted_at o d p i ≡ shifted_at o c p i
    unfolding shifted_at
    shifted_by i q = rw (at_p o c d t p p (length t) u x1, q)

    one-rest : (i : ℕ) → i < length c → (i ≡ p → ⊥) → Dec (i < p) → at e i ≡ weak_at o c t (whole t) i
    one-rest i h n (yes l) =
        a.inside i (omega arith) (omega arith) ∙ shifted_by i (u.below i l)
        ∙ sym
        (weak-one o c t (whole t) i p (x0.clear i l (omega arith))
        (refs-front t (whole t) i (omega arith) (omega arith) p p (omega arith) (le_refl p) u.high u.mark u.mark x0.clear
        (λ j y z. x1.clear j y (omega arith)) l))
    one-rest i h n (no g) =
        a.inside i (omega arith) (omega arith) ∙ shifted_by i (u.above i (omega arith))
        ∙ sym
        (weak-one o c t (whole t) i p (x1.clear i (omega arith) (omega arith))
        (refs-behind t (whole t) i (omega arith) (omega arith) p p (omega arith) (le_refl p) u.high u.mark u.mark x0.clear
        (λ j y z. x1.clear j y (omega arith)) (omega arith)))

    one_at : (i : ℕ) → i < length c → Dec (i ≡ p) → at e i ≡ weak_at o c t (whole t) i
    one_at i h (yes q) = rw q (a.inside p (omega arith) u.high ∙ shifted-own o d p ∙ u.inside p (le_refl p) (le_refl p))
    one_at i h (no n) = one-rest i h n (dec_lt i p)

    pub done-one : Done o c t e
    done-one = record { len = a.len ∙ u.len; each = λ i h. one_at i h (ℕ_discrete i p) }

  -- more: the first touched point f and the last, l, keep their currents while the rest is written
  module _ (f l : ℕ) (d : List ℤ) (x0 : Next t 0 f) (u : Upto o c t f l d) (x1 : Next t (l + 1) (length t)) where
    -- after the gaps
    pub kept : (at d l ≡ at c l) × (at d f ≡ at c f)
    kept = (at_p o c d t f l (length t) u x1, u.inside f (le_refl f) u.low ∙ weak-touched o c t (whole t) f (x0.here (omega (arith, u.low, u.high))))

    -- no point behind the last is too steep
    pub gentle-behind : Gentle o c t → GentleRefs o d (refs l f) (l + 1) (length t)
    gentle-behind g i a b =
        steep-by o c d l f i kept.0 kept.1
        ∙ steep-two o c t (whole t) i l f (x1.clear i b a)
        (refs-behind t (whole t) i (omega arith) (omega arith) f l (omega arith) u.low u.high (x0.here (omega (arith, u.low, u.high))) u.mark
        x0.clear (λ j y z. x1.clear j y (omega arith)) (omega arith)) (g i b)

    module _ (e : List ℤ) (w1 : Wrote (between_at o d (refs l f)) (l + 1) (length t) d e) where
      -- after the points behind the last
      pub kept-behind : (at e l ≡ at c l) × (at e f ≡ at c f)
      kept-behind = (w1.below l (omega arith) ∙ kept.0, w1.below f (omega (arith, u.low)) ∙ kept.1)

      -- no point in front of the first is too steep
      pub gentle-front : Gentle o c t → GentleRefs o e (refs l f) 0 f
      gentle-front g i a b =
          steep-by o c e l f i kept-behind.0 kept-behind.1
          ∙ steep-two o c t (whole t) i l f (x0.clear i b a)
          (refs-front t (whole t) i (omega arith) (omega (arith, u.low, u.high)) f l (omega arith) u.low u.high
          (x0.here (omega (arith, u.low, u.high))) u.mark x0.clear (λ j y z. x1.clear j y (omega arith)) b) (g i (omega (arith, u.low, u.high)))

      module _ (g : List ℤ) (lt : length t ≡ length c) (ne : l ≡ f → ⊥) (w2 : Wrote (between_at o e (refs l f)) 0 f e g) where
        mark-f : 0 < get_or t f 0
        mark-f = x0.here (omega (arith, u.low, u.high))

        more-behind : (i : ℕ) → i < length c → f ≤ i → Dec (i < l + 1) → at g i ≡ weak_at o c t (whole t) i
        more-behind i h a (yes b) = w2.above i a ∙ w1.below i b ∙ u.inside i a (omega arith)
        more-behind i h a (no n) =
            w2.above i a ∙ w1.inside i (omega arith) (omega arith) ∙ between-by o c d l f i kept.0 kept.1
            ∙ sym
            (weak-two o c t (whole t) i l f (x1.clear i (omega arith) (omega arith))
            (refs-behind t (whole t) i (omega arith) (omega arith) f l (omega arith) u.low u.high mark-f u.mark x0.clear
            (λ j y z. x1.clear j y (omega arith)) (omega arith)) ne)

        more-at : (i : ℕ) → i < length c → Dec (i < f) → at g i ≡ weak_at o c t (whole t) i
        more-at i h (yes b) =
            w2.inside i (omega arith) b ∙ between-by o c e l f i kept-behind.0 kept-behind.1
            ∙ sym
            (weak-two o c t (whole t) i l f (x0.clear i b (omega arith))
            (refs-front t (whole t) i (omega arith) (omega arith) f l (omega arith) u.low u.high mark-f u.mark x0.clear
            (λ j y z. x1.clear j y (omega arith)) b) ne)
        more-at i h (no n) = more-behind i h (omega arith) (dec_lt i (l + 1))

        pub done_more : Done o c t g
        done_more = record { len = w2.len ∙ w1.len ∙ u.len; each = λ i h. more-at i h (dec_lt i f) }
