-- Moving an outline by whole pixels, within the limits before and behind it, changes neither number. Assumes nothing.
use mathlib.Core.Path.{◌≡◌, refl, sym, ap, ◌∙◌, subst}
use mathlib.Core.Logic.{⊎_elim}
use mathlib.Core.Bool.{Bool, true, false, not}
use mathlib.Core.List.{List, [], ◌∷◌}
use Prim.Native.Nat.{ℕ, suc, ◌+◌, ◌-◌, ◌*◌, ◌≤◌, ◌<◌}
use native.Mathlib.Omega.{arith}
use borrow.Author.Tests.{leb-true, leb-false, le-leb, lt-leb, lt-ltb}
use lib.Dec.{leb, eqb}
use lib.IntN.{ℤ, pos, nat_abs, ◌+ℤ◌, ◌-ℤ◌, ◌*ℤ◌}
use Rattle.signed.specs.Parts.{up, dn}
use Rattle.signed.proofs.Order.{of-≡}
use Rattle.signed.proofs.Signed.{add-law, times-up, times-dn, nat_abs-is, one-zero, lt-or-le, to-≤ℤ}
use Rattle.weak_contour.specs.Contour.{at}
use Rattle.weak.specs.Weak.{ends_hold}
use Rattle.path_trip.specs.Path.{Points, points}
use Rattle.path_trip.specs.declared.tour.Spot.{Spot}
use Rattle.path_trip.specs.declared.tour.Spot.TheVariants.{Point, Between}
use Rattle.path_trip.specs.Trips.{Inside}
use Rattle.shown_rows.specs.Turns.{most_columns, bit, corner, sides, pixel, total}
use Rattle.shown_rows.specs.Crossing.{centre}
use Rattle.shown_rows.specs.Chains.{place_at}
use Rattle.shown_rows.proofs.Closed.{weights}
use Rattle.shown.specs.Shown.{Place, Side, halves, lines_of, crosses, ups, downs, black, before, around}
use Rattle.shown.specs.Field.{field_half, Reach, InField}
use Rattle.shown.specs.Frames.{place_of, Spans, WhiteAround}
use Rattle.shown.specs.Moves.{Moved, ShowSame}
use Rattle.shown.proofs.Tours.{first-end}
use Rattle.shown.proofs.Crossings.{crosses-below, crosses-above}
use Rattle.shown.proofs.Tallies.{up_at, down_at, ups-are, downs-are}
use Rattle.shown.proofs.Outlines.{Contours, outline-contours, contours-same}
use Rattle.shown.proofs.Counts.{framed-counts}
use Rattle.shown.proofs.Limits.{reach-parts}
use Rattle.shown.proofs.White.{place-parts, sum-parts, white-left, white-right, white-below, white-above}

-- ---- one line, moved to the right by c pixels less a, and up by d less b
abbrev Apart : ℕ → ℕ → ℕ → ℕ → Type 0
Apart a c x x' = x' + 32768 * a ≡ x + 32768 * c

abbrev Shifted : ℕ → ℕ → ℕ → ℕ → Place → Place → Type 0
Shifted a c b d p p' = Apart a c p.x p'.x × Apart b d p.y p'.y

leb-same : (x y x' y' : ℕ) → (x ≤ y → x' ≤ y') → (y < x → y' < x') → leb x' y' ≡ leb x y
leb-same x y x' y' f g = by (leb x y) refl
  where
    by : (t : Bool) → leb x y ≡ t → leb x' y' ≡ t
    by true e = le-leb x' y' (f (leb-true x y e))
    by false e = lt-leb x' y' (g (leb-false x y e))

-- whether a crossing is at or left of x, by the heights above and below it
left-same : (a c l h x l' h' x' u v : ℕ) → Apart a c l l' → Apart a c h h' → Apart a c x x'
    → leb (l' * u + h' * v) (x' * (u + v)) ≡ leb (l * u + h * v) (x * (u + v))
left-same a c l h x l' h' x' u v p q r =
    let e = ap (λ (z : ℕ). z * u) p in
    let f = ap (λ (z : ℕ). z * v) q in
    let g = ap (λ (z : ℕ). z * u) r in
    let k = ap (λ (z : ℕ). z * v) r in
    leb-same (l * u + h * v) (x * (u + v)) (l' * u + h' * v) (x' * (u + v)) (λ s. omega arith) (λ s. omega arith)

module _ (a c b d x y x' y' : ℕ) (ex : Apart a c x x') (ey : Apart b d y y') where
  module _ (l h l' h' : Place) (p : Shifted a c b d l l') (q : Shifted a c b d h h') where
    -- where the line goes over the height
    over-same : l.y ≤ y → y < h.y → crosses l' h' x' y' ≡ crosses l h x y
    over-same k n =
        let py = p.1 in
        let qy = q.1 in
        let k' : l'.y ≤ y' = omega arith in
        let n' : y' < h'.y = omega arith in
        let u : h'.y - y' ≡ h.y - y = omega arith in
        let v : y' - l'.y ≡ y - l.y = omega arith in
        let w : h'.y - l'.y ≡ (h.y - y) + (y - l.y) = omega arith in
        let z : h.y - l.y ≡ (h.y - y) + (y - l.y) = omega arith in
        rw (le-leb l.y y k, le-leb l'.y y' k', lt-ltb y h.y n, lt-ltb y' h'.y n', u, v, w, z)
        (left-same a c l.x h.x x l'.x h'.x x' (h.y - y) (y - l.y) p.0 q.0 ex)

    crosses-same : crosses l' h' x' y' ≡ crosses l h x y
    crosses-same =
        ⊎_elim (λ k. crosses-below l' h' x' y' (omega (arith, p.1)) ∙ sym (crosses-below l h x y k))
        (λ k. ⊎_elim (λ n. over-same k n) (λ n. crosses-above l' h' x' y' (omega (arith, q.1)) ∙ sym (crosses-above l h x y n)) (lt-or-le y h.y))
        (lt-or-le y l.y)

  module _ (ss ss' : List Side) (k : Contours (Shifted a c b d) ss ss') where
    ups_same : ups ss' x' y' ≡ ups ss x y
    ups_same =
        ups-are x' y' ss'
        ∙ contours-same (Shifted a c b d) (up_at x y) (up_at x' y') (λ l h l' h' p q. ap bit (crosses-same l h l' h' p q)) ss ss' k
        ∙ sym (ups-are x y ss)

    downs_same : downs ss' x' y' ≡ downs ss x y
    downs_same =
        downs-are x' y' ss'
        ∙ contours-same (Shifted a c b d) (down_at x y) (down_at x' y') (λ l h l' h' p q. ap bit (crosses-same h l h' l' q p)) ss ss' k
        ∙ sym (downs-are x y ss)

-- ---- one axis of the points
place-moved : (p c q p' c' q' k x y : ℕ) → k ≤ 16 → p' + x ≡ p + y → c' + x ≡ c + y → q' + x ≡ q + y → place_at p' c' q' k + 256 * x ≡ place_at p c q k + 256 * y
place-moved p c q p' c' q' k x y h e f g =
    let w = weights (16 - k) k (omega arith) in
    omega (
      arith,
      ap (λ (z : ℕ). (16 - k) * (16 - k) * z) e,
      ap (λ (z : ℕ). 2 * (16 - k) * k * z) f,
      ap (λ (z : ℕ). k * k * z) g,
      ap (λ (z : ℕ). z * x) w,
      ap (λ (z : ℕ). z * y) w,
    )

-- the coordinate of each point, magnified, and 64 a are that of the other outline's and 64 c; both are within the limits
record Axis (m : ℕ) (l l' : List ℤ) (n a c : ℕ) : Type 0 where
  each : (i : ℕ) → i < n → m * up (at l' i) + m * dn (at l i) + 64 * a ≡ m * dn (at l' i) + m * up (at l i) + 64 * c
  here : Reach m l
  there : Reach m l'

back : {m : ℕ} {l l' : List ℤ} {n a c : ℕ} → Axis m l l' n a c → Axis m l' l n c a
back h = record { each = λ i k. omega (arith, h.each i k); here = h.there; there = h.here }

-- twice the sum of two coordinates within the limits, from the field's corner on: nothing is folded
sum-plain : (m : ℕ) (l : List ℤ) → Reach m l → (i j : ℕ)
    → nat_abs (pos m *ℤ (at l i +ℤ at l j) +ℤ pos (2 * field_half)) + m * dn (at l i) + m * dn (at l j) ≡ m * up (at l i) + m * up (at l j) + 2 * field_half
sum-plain m l h i j =
    let w = pos m *ℤ (at l i +ℤ at l j) +ℤ pos (2 * field_half) in
    omega (arith, nat_abs-is w, one-zero w, sum-parts field_half m (at l i) (at l j), reach-parts m l h i, reach-parts m l h j)

module _ (m : ℕ) (l l' : List ℤ) (n a c : ℕ) (h : Axis m l l' n a c) where
  halfway-moved : (i j : ℕ) → i < n → j < n
      → nat_abs (pos m *ℤ (at l' i +ℤ at l' j) +ℤ pos (2 * field_half)) + 128 * a ≡ nat_abs (pos m *ℤ (at l i +ℤ at l j) +ℤ pos (2 * field_half)) + 128 * c
  halfway-moved i j p q =
      omega (
        arith,
        sum-plain m l h.here i j,
        sum-plain m l' h.there i j,
        h.each i p,
        h.each j q,
      )

  spot-moved : (r : Spot) → Inside n r → halves field_half m l' r + 128 * a ≡ halves field_half m l r + 128 * c
  spot-moved (Point i) k = halfway-moved i i k k
  spot-moved (Between i j) k = halfway-moved i j k.0 k.1

  spot-apart : (r : Spot) → Inside n r → Apart a c (256 * halves field_half m l r) (256 * halves field_half m l' r)
  spot-apart r k = omega (arith, spot-moved r k)

  curve-apart : (r q : Spot) (i k : ℕ) → Inside n r → i < n → Inside n q → k ≤ 16
      → Apart a c (place_at (halves field_half m l r) (halves field_half m l (Point i)) (halves field_half m l q) k)
      (place_at (halves field_half m l' r) (halves field_half m l' (Point i)) (halves field_half m l' q) k)
  curve-apart r q i k x y z f =
      omega (
        arith,
        place-moved (halves field_half m l r) (halves field_half m l (Point i)) (halves field_half m l q)
            (halves field_half m l' r) (halves field_half m l' (Point i)) (halves field_half m l' q) k (128 * a) (128 * c) f
            (spot-moved r x) (spot-moved (Point i) y) (spot-moved q z),
      )

  -- between the field's sides, and those that the moved points leave
  spans-moved : Spans field_half m l n (32768 * (a - c)) (67108864 - 32768 * (c - a))
  spans-moved =
      record {
        from = λ i k. to-≤ℤ _ (place_of field_half m l i)
            (omega (arith, place-parts field_half m l i, h.each i k, reach-parts m l h.here i, reach-parts m l' h.there i));
        to = λ i k. to-≤ℤ (place_of field_half m l i) _
            (omega (arith, place-parts field_half m l i, h.each i k, reach-parts m l h.here i, reach-parts m l' h.there i));
      }

  -- not farther than the field is wide
  near : 0 < n → (a - c) + (c - a) ≤ 2047
  near k = omega (arith, h.each 0 k, reach-parts m l h.here 0, reach-parts m l' h.there 0)

-- ---- the window that both stand in
module _ (m : ℕ) (o o' : Points) (n : ℕ) (es : List ℕ) (ends : ends_hold 0 n es ≡ true) (a c b d : ℕ)
    (wide : Axis m o.xs o'.xs n a c) (high : Axis m o.ys o'.ys n b d) where
  abbrev across : ℕ
  across = 2048 - ((a - c) + (c - a))

  abbrev upward : ℕ
  upward = 2048 - ((b - d) + (d - b))

  window-white : 0 < n → WhiteAround (black (lines_of field_half m o 0 es)) (a - c) across (b - d) upward
  window-white some =
      let s = spans-moved m o.xs o'.xs n a c wide in
      let t = spans-moved m o.ys o'.ys n b d high in
      let p = near m o.xs o'.xs n a c wide some in
      let q = near m o.ys o'.ys n b d high some in
      record {
        in_front = λ i j h. white-left field_half m o n es ends _ _ s i j (omega arith);
        behind = λ i j h. white-right field_half m o n es ends _ _ s i j (omega arith);
        beneath = λ i j h. white-below field_half m o n es ends _ _ t i j (omega arith);
        above = λ i j h. white-above field_half m o n es ends _ _ t i j (omega arith);
      }

-- counts of two pictures with the same window
same-windows : (f : Bool → Bool → Bool → Bool → ℕ) → f false false false false ≡ 0 → (b b' : ℕ → ℕ → Bool) (left left' n low low' m most : ℕ)
    → WhiteAround b left n low m → WhiteAround b' left' n low' m → left + n < most → left' + n < most → low + m < most → low' + m < most
    → ((i j : ℕ) → b' (left' + i) (low' + j) ≡ b (left + i) (low + j)) → around f b' most ≡ around f b most
same-windows f clear b b' left left' n low low' m most w w' p p' q q' e =
    framed-counts f clear b' left' n low' m w' most p' q'
    ∙ (λ t. total (λ j. total (λ i. f (before (λ z. before (λ k. e z k t) j) i) (before (λ k. e i k t) j) (before (λ z. e z j t) i) (e i j t)) (suc n)) (suc m))
    ∙ sym (framed-counts f clear b left n low m w most p q)

-- ---- both numbers
module _ (m : ℕ) (o o' : Points) (marks : o'.marks ≡ o.marks) (n : ℕ) (es : List ℕ) (ends : ends_hold 0 n es ≡ true) (a c b d : ℕ)
    (wide : Axis m o.xs o'.xs n a c) (high : Axis m o.ys o'.ys n b d) where
  abbrev ss : List Side
  ss = lines_of field_half m o 0 es

  abbrev ss' : List Side
  ss' = lines_of field_half m o' 0 es

  contours-moved : Contours (Shifted a c b d) ss ss'
  contours-moved =
      subst (λ (t : List ℕ). Contours (Shifted a c b d) ss (lines_of field_half m (points o'.xs o'.ys t) 0 es)) (sym marks)
      (outline-contours field_half m o.xs o.ys o'.xs o'.ys o.marks n (Shifted a c b d)
      (record {
        spots = λ r h. (spot-apart m o.xs o'.xs n a c wide r h, spot-apart m o.ys o'.ys n b d high r h);
        curves = λ r q i k x y z h. (curve-apart m o.xs o'.xs n a c wide r q i k x y z h, curve-apart m o.ys o'.ys n b d high r q i k x y z h);
      })
      0
      es
      ends)

  pixel-same : (i j i' j' : ℕ) → i' + a ≡ i + c → j' + b ≡ j + d → black ss' i' j' ≡ black ss i j
  pixel-same i j i' j' p q =
      let x : Apart a c (centre i) (centre i') = omega arith in
      let y : Apart b d (centre j) (centre j') = omega arith in
      let u = ups_same a c b d (centre i) (centre j) (centre i') (centre j') x y ss ss' contours-moved in
      let v = downs_same a c b d (centre i) (centre j) (centre i') (centre j') x y ss ss' contours-moved in
      λ t. not (eqb (u t) (v t))

  counts-moved : 0 < n → (f : Bool → Bool → Bool → Bool → ℕ) → f false false false false ≡ 0
      → around f (black ss') most_columns ≡ around f (black ss) most_columns
  counts-moved some f clear =
      let p = near m o.xs o'.xs n a c wide some in
      let q = near m o.ys o'.ys n b d high some in
      let w = window-white m o o' n es ends a c b d wide high some in
      let ex : 2048 - ((c - a) + (a - c)) ≡ 2048 - ((a - c) + (c - a)) = omega arith in
      let ey : 2048 - ((d - b) + (b - d)) ≡ 2048 - ((b - d) + (d - b)) = omega arith in
      let w' = window-white m o' o n es ends c a d b (back wide) (back high) some in
      let v = subst (λ (z : ℕ). WhiteAround (black ss') (c - a) z (d - b) (2048 - ((b - d) + (d - b)))) ex
      (subst (λ (z : ℕ). WhiteAround (black ss') (c - a) (2048 - ((c - a) + (a - c))) (d - b) z) ey w') in
      same-windows f clear (black ss) (black ss') (a - c) (c - a) (2048 - ((a - c) + (c - a))) (b - d) (d - b) (2048 - ((b - d) + (d - b))) most_columns w v
      (omega arith)
      (omega arith)
      (omega arith)
      (omega arith)
      (λ i j. pixel-same (a - c + i) (b - d + j) (c - a + i) (d - b + j) (omega arith) (omega arith))

  some_same : 0 < n → ShowSame ss ss'
  some_same some =
      let x = counts-moved some pixel refl in
      let y = counts-moved some corner refl in
      let z = counts-moved some sides refl in
      record { blacks = x; eulers = λ t. pos (y t + x t) -ℤ pos (z t) }

none-same : (m : ℕ) (o o' : Points) → ShowSame (lines_of field_half m o 0 []) (lines_of field_half m o' 0 [])
unfolding lines_of
none-same m o o' = record { blacks = refl; eulers = refl }

-- the equation of signed numbers in parts
axis-of : (m : ℕ) (l l' : List ℤ) (n : ℕ) (d : ℤ) → ((i : ℕ) → i < n → pos m *ℤ at l' i ≡ pos m *ℤ at l i +ℤ pos 64 *ℤ d) → Reach m l → Reach m l'
    → Axis m l l' n (dn d) (up d)
axis-of m l l' n d e p q =
    record {
      each = λ i h.
          let x = pos m *ℤ at l i in
          omega (
            arith,
            of-≡ (pos m *ℤ at l' i) (x +ℤ pos 64 *ℤ d) (e i h),
            add-law x (pos 64 *ℤ d),
            times-up m (at l i),
            times-dn m (at l i),
            times-up m (at l' i),
            times-dn m (at l' i),
            times-up 64 d,
            times-dn 64 d,
          );
      here = p;
      there = q;
    }

-- an outline that is moved by whole pixels, within the limits before and behind, shows the same
pub moved-shows : (m : ℕ) (o o' : Points) (n : ℕ) (es : List ℕ) → ends_hold 0 n es ≡ true → InField o m → InField o' m
    → (across upward : ℤ) → Moved m n across upward o o' → ShowSame (lines_of field_half m o 0 es) (lines_of field_half m o' 0 es)
moved-shows m o o' n [] ends p q x y h = none-same m o o'
moved-shows m o o' n (e ∷ es) ends p q x y h =
    some_same m o o' h.marks n (e ∷ es) ends (dn x) (up x) (dn y) (up y)
    (axis-of m o.xs o'.xs n x h.xs p.wide q.wide)
    (axis-of m o.ys o'.ys n y h.ys p.high q.high)
    (omega (arith, (first-end 0 n e es ends).high))
