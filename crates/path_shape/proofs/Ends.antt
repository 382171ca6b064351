-- Which points the legs of a walk end at: each on-curve point of the walk once, and the start once more where the walk's last point is off the curve.
use mathlib.Core.Path.{◌≡◌, refl, sym, ap, ◌∙◌}
use mathlib.Core.Bool.{Bool, true, false, cond}
use mathlib.Core.List.{List, [], ◌∷◌, ◌++◌}
use mathlib.Core.Logic.{⊎_elim}
use Prim.Native.Nat.{ℕ, zero, suc, ◌+◌, ◌≤◌, ◌<◌}
use native.Mathlib.Omega.{arith}
use borrow.Author.Tests.{eq-eqb, ne_eqb}
use Rattle.signed.proofs.Choices.{clash}
use Rattle.signed.proofs.Signed.{lt-or-le}
use Rattle.path_trip.specs.Path.{Points, on_curve, from, front, rest}
use Rattle.path_trip.specs.declared.tour.Spot.{Spot}
use Rattle.path_trip.specs.Legs.{line, curve, curve_to, legs}
use Rattle.path_shape.specs.Shape.{here, is_at, ending, lines, last_on}

-- how often the point i stands in a list
unfoldable pub occurs : ℕ → List ℕ → ℕ
occurs i [] = 0
occurs i (j ∷ js) = here i j + occurs i js

-- another point
pub here-not : (i j : ℕ) → (i ≡ j → ⊥) → here i j ≡ 0
here-not i j n = rw (ne_eqb i j n)

-- the same point
pub here-is : (i j : ℕ) → i ≡ j → here i j ≡ 1
here-is i j e = rw (eq-eqb i j e)

-- ---- the ends of a walk's legs
module _ (o : Points) (start : Spot) (i : ℕ) (h : on_curve o i ≡ true) where
  -- an off-curve point is another
  off-not : (j : ℕ) → on_curve o j ≡ false → here i j ≡ 0
  off-not j q = here-not i j (λ e. clash (on_curve o j) q (ap (on_curve o) (sym e) ∙ h))

  -- behind an on-curve point; and behind an off-curve point c, with the end of its curve
  abbrev Both : List ℕ → Type 0
  Both w =
      (ending i (legs o start true w) ≡ occurs i w + cond (last_on o true w) 0 (is_at i start))
      × ((c : ℕ) → is_at i (curve_to o start c w) + ending i (legs o start false w) ≡ occurs i w + cond (last_on o false w) 0 (is_at i start))

  both : (w : List ℕ) → Both w
  unfolding ending legs curve_to occurs last_on
  both [] = (refl, λ c. omega arith)
  both (j ∷ js) = by (on_curve o j) refl (both js)
    where
      by : (b : Bool) → on_curve o j ≡ b → Both js → Both (j ∷ js)
      by true q r = (rw q (omega (arith, r.0)), λ c. rw q (omega (arith, r.0)))
      by false q r = (rw q (omega (arith, r.1 j, off-not j q)), λ c. rw q (omega (arith, r.1 j, off-not j q)))

  -- the walk of a contour
  pub ends-are : (w : List ℕ) → ending i (legs o start true w) ≡ occurs i w + cond (last_on o true w) 0 (is_at i start)
  ends-are w = (both w).0

-- a line ends at a point of the walk
pub lines-few : (o : Points) (start : Spot) (i : ℕ) (on : Bool) (w : List ℕ) → lines i (legs o start on w) ≤ occurs i w
unfolding lines legs occurs
lines-few o start i on [] = omega arith
lines-few o start i on (j ∷ js) = by (on_curve o j) on (lines-few o start i true js) (lines-few o start i false js)
  where
    by : (b c : Bool) → lines i (legs o start true js) ≤ occurs i js → lines i (legs o start false js) ≤ occurs i js
        → lines i (cond b (cond c (line j ∷ legs o start true js) (legs o start true js)) (curve j (curve_to o start j js) ∷ legs o start false js))
        ≤ here i j + occurs i js
    by true true p q = omega arith
    by true false p q = omega arith
    by false c p q = omega arith

-- ---- where a point stands
-- in two lists
pub occurs-two : (i : ℕ) (l m : List ℕ) → occurs i (l ++ m) ≡ occurs i l + occurs i m
unfolding occurs
occurs-two i [] m = omega arith
occurs-two i (j ∷ l) m = omega (arith, occurs-two i l m)

-- in front of a contour not at all
occurs-below : (i a n : ℕ) → i < a → occurs i (from a n) ≡ 0
unfolding occurs from
occurs-below i a zero h = refl
occurs-below i a (suc n) h = omega (arith, here-not i a (λ e. omega arith), occurs-below i (suc a) n (omega arith))

-- in a contour once
pub occurs-once : (i a n : ℕ) → a ≤ i → i < a + n → occurs i (from a n) ≡ 1
unfolding occurs from
occurs-once i a zero h g = let z : ⊥ = omega arith in absurd z
occurs-once i a (suc n) h g =
    ⊎_elim (λ (y : a < i). omega (arith, here-not i a (λ e. omega arith), occurs-once i (suc a) n (omega arith) (omega arith)))
    (λ (y : i ≤ a). omega (arith, here-is i a (omega arith), occurs-below i (suc a) n (omega arith)))
    (lt-or-le a i)

-- ---- the first on-curve point
module _ (o : Points) where
  -- the parts of a list in front of it and from it on
  pub parts_whole : (l : List ℕ) → front o l ++ rest o l ≡ l
  unfolding front rest
  parts_whole [] = refl
  parts_whole (i ∷ l) = by (on_curve o i) (parts_whole l)
    where
      by : (b : Bool) → front o l ++ rest o l ≡ l → cond b [] (i ∷ front o l) ++ cond b (i ∷ l) (rest o l) ≡ i ∷ l
      by true e = refl
      by false e = ap (λ (m : List ℕ). i ∷ m) e

  -- what the part from it on says of it
  pub record FirstOn (a n f : ℕ) : Type 0 where
    pub low : a ≤ f
    pub high : f < a + n
    pub on : on_curve o f ≡ true
    pub off : (z : ℕ) → a ≤ z → z < f → on_curve o z ≡ false

  pub first_on : (n a f : ℕ) (behind : List ℕ) → rest o (from a n) ≡ f ∷ behind → FirstOn a n f
  unfolding rest from
  first_on zero a f behind q = let z : ◌≡◌ {A = ℕ} 0 1 = cc in let y : ⊥ = omega arith in absurd y
  first_on (suc n) a f behind q = by (on_curve o a) refl (first_on n (suc a) f behind) q
    where
      by : (b : Bool) → on_curve o a ≡ b → (rest o (from (suc a) n) ≡ f ∷ behind → FirstOn (suc a) n f)
          → cond b (a ∷ from (suc a) n) (rest o (from (suc a) n)) ≡ f ∷ behind → FirstOn a (suc n) f
      by true p r q =
          let e : a ≡ f = cc in
          record { low = omega arith; high = omega arith; on = ap (on_curve o) (sym e) ∙ p; off = λ z x y. let w : ⊥ = omega arith in absurd w }
      by false p r q =
          let m = r q in
          record {
            low = omega (arith, m.low);
            high = omega (arith, m.high);
            on = m.on;
            off = λ z x y.
                ⊎_elim (λ (v : a < z). m.off z (omega arith) y) (λ (v : z ≤ a). let e : z ≡ a = omega arith in ap (on_curve o) e ∙ p) (lt-or-le a z);
          }

  -- no part from it on: there is none
  pub none-on : (n a : ℕ) → rest o (from a n) ≡ [] → (z : ℕ) → a ≤ z → z < a + n → on_curve o z ≡ false
  unfolding rest from
  none-on zero a q z x y = let w : ⊥ = omega arith in absurd w
  none-on (suc n) a q z x y = by (on_curve o a) refl (none-on n (suc a)) q
    where
      by : (b : Bool) → on_curve o a ≡ b → (rest o (from (suc a) n) ≡ [] → (z : ℕ) → suc a ≤ z → z < suc a + n → on_curve o z ≡ false)
          → cond b (a ∷ from (suc a) n) (rest o (from (suc a) n)) ≡ [] → on_curve o z ≡ false
      by true p r q = let v : ◌≡◌ {A = ℕ} 0 1 = cc in let w : ⊥ = omega arith in absurd w
      by false p r q =
          ⊎_elim (λ (v : a < z). r q z (omega arith) (omega arith)) (λ (v : z ≤ a). let e : z ≡ a = omega arith in ap (on_curve o) e ∙ p) (lt-or-le a z)
