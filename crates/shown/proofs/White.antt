-- A pixel whose centre is outside the bounds of the contours' points is white. Assumes nothing.
use mathlib.Core.Path.{◌≡◌, refl, sym, ap, ◌∙◌}
use mathlib.Core.Logic.{◌⊎◌, ⊎_elim}
use mathlib.Core.Bool.{true, false, not}
use mathlib.Core.List.{List}
use Prim.Native.Nat.{ℕ, zero, suc, ◌+◌, ◌*◌, ◌≤◌, ◌<◌}
use native.Mathlib.Omega.{arith}
use borrow.Author.Tests.{eq-eqb}
use lib.IntN.{ℤ, pos, nat_abs, ◌+ℤ◌, ◌*ℤ◌}
use lib.Signed.{◌≤ℤ◌}
use Rattle.signed.specs.Parts.{up, dn}
use Rattle.signed.proofs.Order.{of-≤ℤ}
use Rattle.signed.proofs.Signed.{add-law, times-up, times-dn, nat_abs-is, one-zero}
use Rattle.weak_contour.specs.Contour.{at}
use Rattle.weak.specs.Weak.{ends_hold}
use Rattle.path_trip.specs.Path.{Points}
use Rattle.path_trip.specs.declared.tour.Spot.{Spot}
use Rattle.path_trip.specs.declared.tour.Spot.TheVariants.{Point, Between}
use Rattle.path_trip.specs.Trips.{Inside}
use Rattle.shown_rows.specs.Turns.{bit}
use Rattle.shown_rows.specs.Crossing.{centre}
use Rattle.shown_rows.specs.Chains.{place_at}
use Rattle.shown_rows.proofs.Closed.{all-below, all_above}
use Rattle.shown.specs.Shown.{Place, Side, halves, lines_of, crosses, ups, downs, black}
use Rattle.shown.specs.Frames.{place_of, Spans, Framed, Outside}
use Rattle.shown.proofs.Crossings.{crosses-below, crosses-above, crosses-right}
use Rattle.shown.proofs.Tallies.{tally, up_at, down_at, rise_at, fall_at, ups-are, downs-are, up-rise, down-fall}
use Rattle.shown.proofs.Outlines.{Contours, outline-contours, contours-same, outline-even}

-- ---- places in parts
module _ (half m : ℕ) where
  pub place-parts : (l : List ℤ) (i : ℕ) → up (place_of half m l i) + 512 * (m * dn (at l i)) ≡ dn (place_of half m l i) + 512 * (m * up (at l i)) + 512 * half
  place-parts l i =
      let z = at l i in
      let w = pos m *ℤ z +ℤ pos half in
      omega (arith, times-up 512 w, times-dn 512 w, add-law (pos m *ℤ z) (pos half), times-up m z, times-dn m z)

  -- twice the sum of two coordinates, magnified, from the field's corner on
  pub sum-parts : (x y : ℤ)
      → up (pos m *ℤ (x +ℤ y) +ℤ pos (2 * half)) + m * dn x + m * dn y ≡ dn (pos m *ℤ (x +ℤ y) +ℤ pos (2 * half)) + m * up x + m * up y + 2 * half
  sum-parts x y =
      omega (
        arith,
        add-law (pos m *ℤ (x +ℤ y)) (pos (2 * half)),
        times-up m (x +ℤ y),
        times-dn m (x +ℤ y),
        ap (λ (z : ℕ). m * z) (add-law x y),
      )

-- ---- one axis
curve-low : (low p c q k : ℕ) → k ≤ 16 → low ≤ 256 * p → low ≤ 256 * c → low ≤ 256 * q → low ≤ place_at p c q k
curve-low zero p c q k h a b d = omega arith
curve-low (suc y) p c q k h a b d = all_above p c q k y h a b d

module _ (half m : ℕ) (l : List ℤ) (n low high : ℕ) (s : Spans half m l n low high) where
  abbrev Within : ℕ → Type 0
  Within x = (low ≤ x) × (x ≤ high)

  -- halfway between two points, or at one
  halfway : (i j : ℕ) → i < n → j < n → Within (256 * nat_abs (pos m *ℤ (at l i +ℤ at l j) +ℤ pos (2 * half)))
  halfway i j p q =
      let w = pos m *ℤ (at l i +ℤ at l j) +ℤ pos (2 * half) in
      let sum = sum-parts half m (at l i) (at l j) in
      let a = of-≤ℤ (pos low) (place_of half m l i) (s.from i p) in
      let b = of-≤ℤ (pos low) (place_of half m l j) (s.from j q) in
      let c = of-≤ℤ (place_of half m l i) (pos high) (s.to i p) in
      let d = of-≤ℤ (place_of half m l j) (pos high) (s.to j q) in
      let e = place-parts half m l i in
      let f = place-parts half m l j in
      let g = nat_abs-is w in
      let z = one-zero w in
      (omega arith, omega arith)

  spot-held : (r : Spot) → Inside n r → Within (256 * halves half m l r)
  spot-held (Point i) h = halfway i i h h
  spot-held (Between i j) h = halfway i j h.0 h.1

  curve-held : (r q : Spot) (i k : ℕ) → Inside n r → i < n → Inside n q → k ≤ 16
      → Within (place_at (halves half m l r) (halves half m l (Point i)) (halves half m l q) k)
  curve-held r q i k a b c h =
      let p = spot-held r a in
      let t = spot-held (Point i) b in
      let u = spot-held q c in (
        curve-low low _ _ _ k h p.0 t.0 u.0,
        all-below (halves half m l r) (halves half m l (Point i)) (halves half m l q) k high h p.1 t.1 u.1,
      )

-- ---- sums over lines, each with itself beside it
module _ (ss : List Side) (x y : ℕ) (R : Place → Place → Type 0) (c : Contours R ss ss) (itself : (p p' : Place) → R p p' → p' ≡ p) where
  sum_same : (f g : Place → Place → ℕ) → ((l h l' h' : Place) → R l l' → R h h' → g l h ≡ f l h) → tally g ss ≡ tally f ss
  sum_same f g each = contours-same R f g (λ l h l' h' p q. (λ t. g (itself l l' p t) (itself h h' q t)) ∙ each l h l' h' p q) ss ss c

  -- where no line crosses
  none-even : ((l h l' h' : Place) → R l l' → R h h' → crosses l h x y ≡ false) → ups ss x y ≡ downs ss x y
  none-even never =
      ups-are x y ss
      ∙ sym (sum_same (up_at x y) (λ _ _. 0) (λ l h l' h' p q. sym (ap bit (never l h l' h' p q))))
      ∙ sum_same (down_at x y) (λ _ _. 0) (λ l h l' h' p q. sym (ap bit (never h l h' l' q p)))
      ∙ sym (downs-are x y ss)

  -- right of every place
  right-even : ((p p' : Place) → R p p' → p.x ≤ x) → tally (rise_at y) ss ≡ tally (fall_at y) ss → ups ss x y ≡ downs ss x y
  right-even left even =
      ups-are x y ss
      ∙ sym (sum_same (up_at x y) (rise_at y) (λ l h l' h' p q. up-rise x y l h (left l l' p) (left h h' q)))
      ∙ even
      ∙ sum_same (down_at x y) (fall_at y) (λ l h l' h' p q. down-fall x y l h (left l l' p) (left h h' q))
      ∙ sym (downs-are x y ss)

even-white : (ss : List Side) (i j : ℕ) → ups ss (centre i) (centre j) ≡ downs ss (centre i) (centre j) → black ss i j ≡ false
even-white ss i j e = ap not (eq-eqb _ _ e)

-- ---- the four sides
-- x is from `low` to `high`, and the place beside is the place itself
record Held (low high x : ℕ) (p p' : Place) : Type 0 where
  from : low ≤ x
  to : x ≤ high
  itself : p' ≡ p

abbrev AcrossIn : ℕ → ℕ → Place → Place → Type 0
AcrossIn low high p p' = Held low high p.x p p'

abbrev UpwardIn : ℕ → ℕ → Place → Place → Type 0
UpwardIn low high p p' = Held low high p.y p p'

held : {low high x : ℕ} (p : Place) → (low ≤ x) × (x ≤ high) → Held low high x p p
held p h = record { from = h.0; to = h.1; itself = refl }

module _ (half m : ℕ) (o : Points) (n : ℕ) (es : List ℕ) (ends : ends_hold 0 n es ≡ true) (low high : ℕ) where
  abbrev ss : List Side
  ss = lines_of half m o 0 es

  across : Spans half m o.xs n low high → Contours (AcrossIn low high) ss ss
  across s =
      outline-contours half m o.xs o.ys o.xs o.ys o.marks n (AcrossIn low high)
      (record {
        spots = λ r h. held _ (spot-held half m o.xs n low high s r h);
        curves = λ r q i k a b c h. held _ (curve-held half m o.xs n low high s r q i k a b c h);
      })
      0
      es
      ends

  upward : Spans half m o.ys n low high → Contours (UpwardIn low high) ss ss
  upward s =
      outline-contours half m o.xs o.ys o.xs o.ys o.marks n (UpwardIn low high)
      (record {
        spots = λ r h. held _ (spot-held half m o.ys n low high s r h);
        curves = λ r q i k a b c h. held _ (curve-held half m o.ys n low high s r q i k a b c h);
      })
      0
      es
      ends

  -- left of all points no line crosses
  pub white-left : Spans half m o.xs n low high → (i j : ℕ) → centre i < low → black (lines_of half m o 0 es) i j ≡ false
  white-left s i j k =
      even-white ss i j
      (none-even ss (centre i) (centre j) (AcrossIn low high) (across s) (λ p p' r. r.itself)
      (λ l h l' h' p q. crosses-right l h (centre i) (centre j) (omega (arith, p.from)) (omega (arith, q.from))))

  -- right of them, or at the last, the lines go up as often as down
  pub white-right : Spans half m o.xs n low high → (i j : ℕ) → high ≤ centre i → black (lines_of half m o 0 es) i j ≡ false
  white-right s i j k =
      even-white ss i j
      (right-even ss (centre i) (centre j) (AcrossIn low high) (across s) (λ p p' r. r.itself)
      (λ p p' r. omega (arith, r.to))
      (outline-even half m o (centre j) 0 es))

  -- below them every line starts above
  pub white-below : Spans half m o.ys n low high → (i j : ℕ) → centre j < low → black (lines_of half m o 0 es) i j ≡ false
  white-below s i j k =
      even-white ss i j
      (none-even ss (centre i) (centre j) (UpwardIn low high) (upward s) (λ p p' r. r.itself)
      (λ l h l' h' p q. crosses-below l h (centre i) (centre j) (omega (arith, p.from))))

  -- and above them, or at the highest, none ends above
  pub white-above : Spans half m o.ys n low high → (i j : ℕ) → high ≤ centre j → black (lines_of half m o 0 es) i j ≡ false
  white-above s i j k =
      even-white ss i j
      (none-even ss (centre i) (centre j) (UpwardIn low high) (upward s) (λ p p' r. r.itself)
      (λ l h l' h' p q. crosses-above l h (centre i) (centre j) (omega (arith, q.to))))

-- a pixel whose centre is outside the bounds of the contours' points, or at the right or the upper one, is white
pub white-outside : (half m : ℕ) (o : Points) (n : ℕ) (es : List ℕ) → ends_hold 0 n es ≡ true → (lx hx ly hy : ℕ) → Framed half m o n lx hx ly hy
    → (i j : ℕ) → Outside lx hx (centre i) ⊎ Outside ly hy (centre j) → black (lines_of half m o 0 es) i j ≡ false
white-outside half m o n es ends lx hx ly hy f i j h =
    ⊎_elim
    (λ x. ⊎_elim (λ k. white-left half m o n es ends lx hx f.across i j k) (λ k. white-right half m o n es ends lx hx f.across i j k) x)
    (λ y. ⊎_elim (λ k. white-below half m o n es ends ly hy f.upward i j k) (λ k. white-above half m o n es ends ly hy f.upward i j k) y)
    h
