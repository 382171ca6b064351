-- Step k of a list of steps: one point of a walk at a time, one contour at a time.
use Rattle.std.specs.Prelude.{Ok, Err}
use mathlib.Core.Path.{◌≡◌, refl, sym, ap, ◌∙◌}
use mathlib.Core.Bool.{Bool, true, false, cond}
use mathlib.Core.List.{List, [], ◌∷◌, ◌++◌}
use Prim.Native.Nat.{ℕ, zero, suc, ◌+◌, ◌-◌, ◌≤◌, ◌<◌}
use native.Mathlib.Numerals.{add-one}
use native.Mathlib.Omega.{arith}
use lib.ListN.{length, get_or, drop, drop_of_length-le}
use Rattle.path_places.specs.declared.PixelPoint.{PixelPoint}
use Rattle.path_trip.specs.declared.step.PathStep.{PathStep}
use Rattle.path_trip.specs.declared.step.PathStep.TheVariants.{Move, Line, Curve, Close}
use Rattle.path_walk.specs.declared.walk.End.TheVariants.{Start, Point, Between}
use Rattle.path_walk.specs.Sought.{Sought}
use Rattle.path_trip.specs.Path.{Points, place, middle, on_curve, Round, round_of, curve_end, walked, steps_of, path_from, path}
use Rattle.path_trip.specs.Trips.{around, Walk}
use Rattle.path_walk.specs.Steps.{seek, count_of, step_of, end_of, end_place}
use Rattle.weak.proofs.Refusals.{drop-one}

-- ---- one list of steps
-- the first step
seek-first : (s : PathStep) (ss : List PathStep) (k : ℕ) → k < 1 → seek (s ∷ ss) k ≡ Ok s
unfolding seek
seek-first s ss zero h = refl
seek-first s ss (suc k) h = let z : ⊥ = omega arith in absurd z

-- a step behind the first
seek-next : (s : PathStep) (ss : List PathStep) (k : ℕ) → 1 ≤ k → seek (s ∷ ss) k ≡ seek ss (k - 1)
unfolding seek
seek-next s ss zero h = let z : ⊥ = omega arith in absurd z
seek-next s ss (suc k) h = let p : k ≡ suc k - 1 = omega arith in ap (seek ss) p

-- no steps
past_all : (k : ℕ) → seek [] k ≡ Err k
unfolding seek
past_all k = refl

-- what is behind steps that were passed
pub seek-past : (p q : List PathStep) (k l : ℕ) → seek p k ≡ Err l → seek (p ++ q) k ≡ seek q l
unfolding seek
seek-past [] q k l e = let z : k ≡ l = cc in ap (seek q) z
seek-past (s ∷ p) q zero l e = let z : ◌≡◌ {A = ℕ} 0 1 = cc in let y : ⊥ = omega arith in absurd y
seek-past (s ∷ p) q (suc k) l e = seek-past p q k l e

-- a step of the first list
pub seek-here : (p q : List PathStep) (k : ℕ) (s : PathStep) → seek p k ≡ Ok s → seek (p ++ q) k ≡ Ok s
unfolding seek
seek-here [] q k s e = let z : ◌≡◌ {A = ℕ} 0 1 = cc in let y : ⊥ = omega arith in absurd y
seek-here (t ∷ p) q zero s e = e
seek-here (t ∷ p) q (suc k) s e = seek-here p q k s e

-- what a call hands out of a list
pub in-here : (p : List PathStep) (k : ℕ) (s : PathStep) → seek p k ≡ Ok s → (k < length p) × (get_or p k Close ≡ s)
unfolding seek
in-here [] k s e = let z : ◌≡◌ {A = ℕ} 0 1 = cc in let y : ⊥ = omega arith in absurd y
in-here (t ∷ p) zero s e = (omega arith, cc)
in-here (t ∷ p) (suc k) s e = let r = in-here p k s e in (omega (arith, r.0), r.1)

-- a number behind the list
pub in-past : (p : List PathStep) (k l : ℕ) → seek p k ≡ Err l → length p ≤ k
unfolding seek
in-past [] k l e = omega arith
in-past (t ∷ p) zero l e = let z : ◌≡◌ {A = ℕ} 0 1 = cc in let y : ⊥ = omega arith in absurd y
in-past (t ∷ p) (suc k) l e = omega (arith, in-past p k l e)

-- ---- a walk
module _ (w : List ℕ) (a e s n : ℕ) (t : Walk w a e s n) where
  -- from its place j on
  pub one_more : (j : ℕ) → j < n → drop j w ≡ around a e (s + j) ∷ drop (j + 1) w
  one_more j h = drop-one w j 0 (omega (arith, t.len)) ∙ ap (λ i. i ∷ drop (j + 1) w) (t.each j h)

  module _ (o : Points) where
    -- ---- where a curve ends
    pub end-last : (i j : ℕ) → n - j ≡ 1 → end_of o i (drop (j + 1) w) ≡ Start
    unfolding end_of
    end-last i j h = rw (drop_of_length-le w {i = j + 1} (omega (arith, t.len)))

    next_more : (j : ℕ) → j < n → (n - j ≡ 1 → ⊥) → drop (j + 1) w ≡ around a e (s + j + 1) ∷ drop (j + 1 + 1) w
    next_more j l h = let p : s + (j + 1) ≡ s + j + 1 = omega arith in one_more (j + 1) (omega arith) ∙ ap (λ (i : ℕ). around a e i ∷ drop (j + 1 + 1) w) p

    pub end_on : (i j : ℕ) → j < n → (n - j ≡ 1 → ⊥) → on_curve o (around a e (s + j + 1)) ≡ true → end_of o i (drop (j + 1) w) ≡ Point (around a e (s + j + 1))
    unfolding end_of
    end_on i j l h q = rw (next_more j l h, q)

    pub end-off : (i j : ℕ) → j < n → (n - j ≡ 1 → ⊥) → on_curve o (around a e (s + j + 1)) ≡ false
        → end_of o i (drop (j + 1) w) ≡ Between i (around a e (s + j + 1))
    unfolding end_of
    end-off i j l h q = rw (next_more j l h, q)

-- ---- one walk
module _ (o : Points) (start : PixelPoint) where
  turn-first : (i : ℕ) (is : List ℕ) (on joined : Bool) (k : ℕ) → on_curve o i ≡ on → k < count_of on joined
      → seek (walked o start joined (i ∷ is)) k ≡ Ok (step_of o start i is)
  unfolding walked
  turn-first i is true true k e h = rw e (seek-first _ _ k h)
  turn-first i is true false k e h = let z : ⊥ = omega arith in absurd z
  turn-first i is false true k e h = rw e (seek-first _ _ k h)
  turn-first i is false false k e h = rw e (seek-first _ _ k h)

  turn-next : (i : ℕ) (is : List ℕ) (on joined : Bool) (k : ℕ) → on_curve o i ≡ on → count_of on joined ≤ k
      → seek (walked o start joined (i ∷ is)) k ≡ seek (walked o start on is) (k - count_of on joined)
  unfolding walked
  turn-next i is true true k e h = rw e (seek-next _ _ k h)
  turn-next i is true false k e h = rw e (let p : k ≡ k - 0 = omega arith in ap (seek (walked o start true is)) p)
  turn-next i is false true k e h = rw e (seek-next _ _ k h)
  turn-next i is false false k e h = rw e (seek-next _ _ k h)

  closes : (joined : Bool) → walked o start joined [] ≡ Close ∷ []
  unfolding walked
  closes joined = refl

  module _ (w : List ℕ) (a e s n : ℕ) (t : Walk w a e s n) where
    pub walk_first : (j : ℕ) → j < n → (on joined : Bool) (k : ℕ) → on_curve o (around a e (s + j)) ≡ on → k < count_of on joined
        → seek (walked o start joined (drop j w)) k ≡ Ok (step_of o start (around a e (s + j)) (drop (j + 1) w))
    walk_first j h on joined k q l =
        ap (λ (x : List ℕ). seek (walked o start joined x) k) (one_more w a e s n t j h) ∙ turn-first (around a e (s + j)) (drop (j + 1) w) on joined k q l

    pub walk-next : (j : ℕ) → j < n → (on joined : Bool) (k : ℕ) → on_curve o (around a e (s + j)) ≡ on → count_of on joined ≤ k
        → seek (walked o start joined (drop j w)) k ≡ seek (walked o start on (drop (j + 1) w)) (k - count_of on joined)
    walk-next j h on joined k q l =
        ap (λ (x : List ℕ). seek (walked o start joined x) k) (one_more w a e s n t j h) ∙ turn-next (around a e (s + j)) (drop (j + 1) w) on joined k q l

    pub walk-closed : (j : ℕ) → n ≤ j → (joined : Bool) → walked o start joined (drop j w) ≡ Close ∷ []
    walk-closed j h joined = ap (walked o start joined) (drop_of_length-le w {i = j} (omega (arith, t.len))) ∙ closes joined

    pub walk-close : (j : ℕ) → n ≤ j → (joined : Bool) (k : ℕ) → k ≡ 0 → seek (walked o start joined (drop j w)) k ≡ Ok Close
    walk-close j h joined k z = ap (λ (x : List PathStep). seek x k) (walk-closed j h joined) ∙ seek-first Close [] k (omega arith)

    pub walk-past : (j : ℕ) → n ≤ j → (joined : Bool) (k : ℕ) → (k ≡ 0 → ⊥) → seek (walked o start joined (drop j w)) k ≡ Err (k - 1)
    walk-past j h joined k z = ap (λ (x : List PathStep). seek x k) (walk-closed j h joined) ∙ seek-next Close [] k (omega arith) ∙ past_all (k - 1)

-- the place of a curve's end
pub end-place : (o : Points) (start : PixelPoint) (i : ℕ) (is : List ℕ) → curve_end o start i is ≡ end_place o start (end_of o i is)
unfolding curve_end end_of
end-place o start i [] = refl
end-place o start i (j ∷ js) = by (on_curve o j)
  where
    by : (b : Bool) → cond b (place o j) (middle o i j) ≡ end_place o start (cond b (Point j) (Between i j))
    by true = refl
    by false = refl

-- the step of a point
pub step_line : (o : Points) (start : PixelPoint) (i : ℕ) (is : List ℕ) (p : PixelPoint) → on_curve o i ≡ true → p ≡ place o i → Line p ≡ step_of o start i is
step_line o start i is p q e = rw q (ap Line e)

-- a curve
pub step-curve : (o : Points) (start : PixelPoint) (i : ℕ) (is : List ℕ) (p r : PixelPoint)
    → on_curve o i ≡ false → p ≡ place o i → r ≡ curve_end o start i is → Curve p r ≡ step_of o start i is
step-curve o start i is p r q e f = rw q (λ z. Curve (e z) (f z))

-- ---- one contour
-- the move
pub seek-move : (o : Points) (r : Round) (p : PixelPoint) (k : ℕ) → p ≡ r.start → k ≡ 0 → Ok (Move p) ≡ seek (steps_of o r) k
unfolding steps_of
seek-move o r p k q e = ap (λ (x : PixelPoint). Ok (Move x)) q ∙ sym (seek-first _ _ k (omega arith))

-- a step behind the move
pub seek-walk : (o : Points) (r : Round) (p : PixelPoint) (k : ℕ) → p ≡ r.start → (k ≡ 0 → ⊥)
    → seek (steps_of o r) k ≡ seek (walked o p true (drop 0 r.walk)) (k - 1)
unfolding steps_of
seek-walk o r p k q h = seek-next _ _ k (omega arith) ∙ ap (λ (x : PixelPoint). seek (walked o x true r.walk) (k - 1)) (sym q)

-- the move and the steps of the walk
pub steps-are : (o : Points) (r : Round) (p : PixelPoint) → p ≡ r.start → steps_of o r ≡ Move p ∷ walked o p true (drop 0 r.walk)
unfolding steps_of
steps-are o r p q = ap (λ (x : PixelPoint). Move x ∷ walked o x true r.walk) (sym q)

-- ---- the outline, one contour at a time
-- from the contour c on
pub path-one : (o : Points) (a : ℕ) (es : List ℕ) (c : ℕ) → c < length es
    → path_from o a (drop c es) ≡ steps_of o (round_of o a (get_or es c 0)) ++ path_from o (get_or es c 0 + 1) (drop (c + 1) es)
unfolding path_from
path-one o a es c h = rw (drop-one es c 0 h, add-one (get_or es c 0))

-- no contour is left to seek in
pub path-none : (o : Points) (a : ℕ) (es : List ℕ) (c k : ℕ) → length es ≤ c → seek (path_from o a (drop c es)) k ≡ Err k
unfolding path_from seek
path-none o a es c k h = rw (drop_of_length-le es {i = c} h)

-- no contour is left
pub path-end : (o : Points) (a : ℕ) (es : List ℕ) (c : ℕ) → length es ≤ c → path_from o a (drop c es) ≡ []
unfolding path_from
path-end o a es c h = rw (drop_of_length-le es {i = c} h)

-- from the first contour on
pub path-start : (o : Points) (es : List ℕ) → path o es ≡ path_from o 0 (drop 0 es)
unfolding path
path-start o es = refl

module _ (o : Points) (a : ℕ) (es : List ℕ) (c k w : ℕ) (r : Sought) (h : c < length es) (e : w ≡ get_or es c 0)
    (q : r ≡ seek (steps_of o (round_of o a (w + 1 - 1))) k) where
  sought : r ≡ seek (steps_of o (round_of o a (get_or es c 0))) k
  sought = let p : w + 1 - 1 ≡ get_or es c 0 = omega arith in q ∙ ap (λ (x : ℕ). seek (steps_of o (round_of o a x)) k) p

  pub contour-here : (s : PathStep) → r ≡ Ok s → seek (path_from o a (drop c es)) k ≡ r
  contour-here s t = ap (λ (x : List PathStep). seek x k) (path-one o a es c h) ∙ seek-here _ _ k s (sym sought ∙ t) ∙ sym t

  pub contour-past : (l : ℕ) → r ≡ Err l → seek (path_from o a (drop c es)) k ≡ seek (path_from o (w + 1) (drop (c + 1) es)) l
  contour-past l t =
      ap (λ (x : List PathStep). seek x k) (path-one o a es c h) ∙ seek-past _ _ k l (sym sought ∙ t)
      ∙ ap (λ (x : ℕ). seek (path_from o (x + 1) (drop (c + 1) es)) l) (sym e)

-- ---- the outline, as it is laid
pub path-turn : (o : Points) (a : ℕ) (es : List ℕ) (c w : ℕ) → c < length es → w ≡ get_or es c 0
    → path_from o a (drop c es) ≡ steps_of o (round_of o a (w + 1 - 1)) ++ path_from o (w + 1) (drop (c + 1) es)
path-turn o a es c w h e =
    let p : get_or es c 0 ≡ w + 1 - 1 = omega arith in
    path-one o a es c h ∙ λ i. steps_of o (round_of o a (p i)) ++ path_from o (sym e i + 1) (drop (c + 1) es)
