-- The counts of a picture that is white around a window are those of the window; the Euler number is outer less inner turns. Assumes nothing.
use mathlib.Core.Path.{◌≡◌, refl, ap, ◌∙◌}
use mathlib.Core.Bool.{Bool, false}
use Prim.Native.Nat.{ℕ, zero, suc, ◌+◌, ◌-◌, ◌≤◌, ◌<◌}
use native.Mathlib.Omega.{arith}
use lib.IntN.{pos, ◌-ℤ◌}
use Rattle.signed.proofs.Signed.{same, signed}
use Rattle.shown_rows.specs.Turns.{corner, sides, pixel, outer, inner, total, before, window, windows}
use Rattle.shown_rows.proofs.Euler.{at-corner, of-totals}
use Rattle.shown.specs.Shown.{around, euler}
use Rattle.shown.specs.Frames.{WhiteAround}

-- ---- totals of which some terms are 0
pub total-none : (f : ℕ → ℕ) (n : ℕ) → ((i : ℕ) → i < n → f i ≡ 0) → total f n ≡ 0
unfolding total
total-none f zero h = refl
total-none f (suc n) h = omega (arith, total-none f n (λ i l. h i (omega arith)), h n (omega arith))

-- those in front of k
total-behind : (f : ℕ → ℕ) (k n : ℕ) → ((i : ℕ) → i < k → f i ≡ 0) → total f (k + n) ≡ total (λ i. f (k + i)) n
unfolding total
total-behind f k zero h = let e : k + 0 ≡ k = omega arith in ap (total f) e ∙ total-none f k h
total-behind f k (suc n) h = let e : k + suc n ≡ suc (k + n) = omega arith in ap (total f) e ∙ ap (λ (z : ℕ). z + f (k + n)) (total-behind f k n h)

-- those from k on
total-front : (f : ℕ → ℕ) (k n : ℕ) → ((i : ℕ) → k ≤ i → f i ≡ 0) → total f (k + n) ≡ total f k
unfolding total
total-front f k zero h = let e : k + 0 ≡ k = omega arith in ap (total f) e
total-front f k (suc n) h = let e : k + suc n ≡ suc (k + n) = omega arith in ap (total f) e ∙ omega (arith, total-front f k n h, h (k + n) (omega arith))

-- those but n from k on
total-window : (f : ℕ → ℕ) (k n most : ℕ) → k + n ≤ most → ((i : ℕ) → i < k → f i ≡ 0) → ((i : ℕ) → k + n ≤ i → f i ≡ 0)
    → total f most ≡ total (λ i. f (k + i)) n
total-window f k n most h p q =
    let e : most ≡ k + n + (most - (k + n)) = omega arith in
    ap (total f) e ∙ total-front f (k + n) (most - (k + n)) q ∙ total-behind f k n p

-- ---- what stands in front
before-white : (g : ℕ → Bool) (i : ℕ) → ((z : ℕ) → g z ≡ false) → before g i ≡ false
before-white g zero h = refl
before-white g (suc i) h = h i

before-front : (g : ℕ → Bool) (k i : ℕ) → ((z : ℕ) → z < k → g z ≡ false) → i ≤ k → before g i ≡ false
before-front g k zero h l = refl
before-front g k (suc i) h l = h i l

before-behind : (g : ℕ → Bool) (k i : ℕ) → ((z : ℕ) → k ≤ z → g z ≡ false) → k < i → before g i ≡ false
before-behind g k zero h l = refl
before-behind g k (suc i) h l = h i (omega arith)

before-window : (g : ℕ → Bool) (k i : ℕ) → ((z : ℕ) → z < k → g z ≡ false) → before g (k + i) ≡ before (λ z. g (k + z)) i
before-window g k zero h = before-front g k (k + 0) h (omega arith)
before-window g k (suc i) h = let e : k + suc i ≡ suc (k + i) = omega arith in ap (before g) e

-- ---- the four around a corner
module _ (f : Bool → Bool → Bool → Bool → ℕ) (none : f false false false false ≡ 0) (b : ℕ → ℕ → Bool) (left n low m : ℕ) (w : WhiteAround b left n low m) where
  abbrev four : ℕ → ℕ → ℕ
  four i j = f (before (λ k. before (b k) j) i) (before (b i) j) (before (λ k. b k j) i) (b i j)

  four-white : {p q r s : Bool} → p ≡ false → q ≡ false → r ≡ false → s ≡ false → f p q r s ≡ 0
  four-white p q r s = (λ t. f (p t) (q t) (r t) (s t)) ∙ none

  four-left : (i j : ℕ) → i < left → four i j ≡ 0
  four-left i j h =
      let g : (z : ℕ) → z < left → before (b z) j ≡ false = λ z l. before-white (b z) j (λ y. w.in_front z y l) in
      four-white
      (before-front (λ k. before (b k) j) left i g (omega arith))
      (g i h)
      (before-front (λ k. b k j) left i (λ z l. w.in_front z j l) (omega arith))
      (w.in_front i j h)

  four-right : (i j : ℕ) → left + suc n ≤ i → four i j ≡ 0
  four-right i j h =
      let g : (z : ℕ) → left + n ≤ z → before (b z) j ≡ false = λ z l. before-white (b z) j (λ y. w.behind z y l) in
      four-white
      (before-behind (λ k. before (b k) j) (left + n) i g (omega arith))
      (g i (omega arith))
      (before-behind (λ k. b k j) (left + n) i (λ z l. w.behind z j l) (omega arith))
      (w.behind i j (omega arith))

  four_below : (i j : ℕ) → j < low → four i j ≡ 0
  four_below i j h =
      let g : (z : ℕ) → before (b z) j ≡ false = λ z. before-front (b z) low j (λ y l. w.beneath z y l) (omega arith) in
      four-white (before-white (λ k. before (b k) j) i g) (g i) (before-white (λ k. b k j) i (λ z. w.beneath z j h)) (w.beneath i j h)

  four-above : (i j : ℕ) → low + suc m ≤ j → four i j ≡ 0
  four-above i j h =
      let g : (z : ℕ) → before (b z) j ≡ false = λ z. before-behind (b z) (low + m) j (λ y l. w.above z y l) (omega arith) in
      let k : low + m ≤ j = omega arith in
      four-white (before-white (λ k. before (b k) j) i g) (g i) (before-white (λ k. b k j) i (λ z. w.above z j k)) (w.above i j k)

  -- those of the window, white around it: the row below row j of it, and the row
  abbrev row_below : ℕ → ℕ → Bool
  row_below j i = before (λ k. b (left + i) (low + k)) j

  abbrev row_here : ℕ → ℕ → Bool
  row_here j i = b (left + i) (low + j)

  four-window : (i j : ℕ) → four (left + i) (low + j) ≡ window f (row_below j) (row_here j) i
  four-window i j =
      let down : (z : ℕ) → before (b z) (low + j) ≡ before (λ k. b z (low + k)) j = λ z. before-window (b z) low j (λ y l. w.beneath z y l) in
      let p = before-window (λ z. before (b z) (low + j)) left i (λ z l. before-white (b z) (low + j) (λ y. w.in_front z y l)) in
      let q = before-window (λ z. b z (low + j)) left i (λ z l. w.in_front z (low + j) l) in
      (λ t. f (p t) (before (b (left + i)) (low + j)) (q t) (b (left + i) (low + j)))
      ∙ λ t. f (before (λ z. down (left + z) t) i) (down (left + i) t) (before (row_here j) i) (row_here j i)

  -- f of all corners is that of the window's corners, one column and one row of corners behind it among them
  pub framed-counts : (most : ℕ) → left + n < most → low + m < most
      → around f b most ≡ total (λ j. windows f (λ i. before (λ k. b (left + i) (low + k)) j) (λ i. b (left + i) (low + j)) (suc n)) (suc m)
  unfolding around
  framed-counts most p q =
      let row : (j : ℕ) → total (λ i. four i j) most ≡ total (λ i. four (left + i) j) (suc n) = λ j.
      total-window (λ i. four i j) left (suc n) most (omega arith) (λ i l. four-left i j l) (λ i l. four-right i j l) in
      total-window (λ j. total (λ i. four i j) most) low (suc m) most (omega arith)
      (λ j l. total-none _ most (λ i _. four_below i j l))
      (λ j l. total-none _ most (λ i _. four-above i j l))
      ∙ (λ t. total (λ j. row (low + j) t) (suc m))
      ∙ λ t. total (λ j. total (λ i. four-window i j t) (suc n)) (suc m)

-- ---- a white picture
pub around-white : (f : Bool → Bool → Bool → Bool → ℕ) → f false false false false ≡ 0 → (b : ℕ → ℕ → Bool) → ((i j : ℕ) → b i j ≡ false)
    → (n : ℕ) → around f b n ≡ 0
unfolding around
around-white f none b h n =
    let p : (i j : ℕ) → before (b i) j ≡ false = λ i j. before-white (b i) j (h i) in
    let q : (i j : ℕ) → before (λ k. b k j) i ≡ false = λ i j. before-white (λ k. b k j) i (λ k. h k j) in
    let r : (i j : ℕ) → before (λ k. before (b k) j) i ≡ false = λ i j. before-white (λ k. before (b k) j) i (λ k. p k j) in
    total-none _ n (λ j _. total-none _ n (λ i _. (λ t. f (r i j t) (p i j t) (q i j t) (h i j t)) ∙ none))

-- ---- the Euler number
turns-law : (b : ℕ → ℕ → Bool) (n : ℕ) → around corner b n + around pixel b n + around (λ _. inner) b n ≡ around sides b n + around outer b n
unfolding around
turns-law b n =
    of-totals _ _ _ _ _
    (λ j. of-totals _ _ _ _ _ (λ i. at-corner (before (λ k. before (b k) j) i) (before (b i) j) (before (λ k. b k j) i) (b i j)) n)
    n

difference : (x s o i : ℕ) → x + i ≡ s + o → pos x -ℤ pos s ≡ pos o -ℤ pos i
difference x s o i e = same (omega (arith, signed))

-- corners less sides plus pixels are outer less inner turns
pub euler-turns : (b : ℕ → ℕ → Bool) (n : ℕ) → euler b n ≡ pos (around outer b n) -ℤ pos (around (λ _. inner) b n)
euler-turns b n = difference _ _ _ _ (turns-law b n)
