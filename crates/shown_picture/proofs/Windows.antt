-- The window of an outline: around it its picture is white. Assumes nothing.
use mathlib.Core.Path.{◌≡◌, refl}
use mathlib.Core.Bool.{true}
use mathlib.Core.List.{List, [], ◌∷◌}
use Prim.Native.Nat.{ℕ, ◌+◌, ◌-◌, ◌*◌, ◌≤◌, ◌<◌}
use native.Mathlib.Nat.{mul-le-mul_left}
use native.Mathlib.Omega.{arith}
use lib.ListN.{length}
use lib.IntN.{ℤ, pos, ◌+ℤ◌, ◌*ℤ◌}
use lib.Signed.{◌≤ℤ◌}
use Rattle.signed.specs.Parts.{up, dn}
use Rattle.signed.proofs.Signed.{signed, one-zero, nat_abs-is, to-≤ℤ}
use Rattle.weak_contour.specs.Contour.{at}
use Rattle.weak.specs.Weak.{ends_hold}
use Rattle.path_trip.specs.Path.{Points}
use Rattle.path_trip.specs.declared.tour.Spot.TheVariants.{Point}
use Rattle.shown.specs.Shown.{halves, lines_of, ups, downs}
use Rattle.shown.specs.Frames.{place_of, Spans}
use Rattle.shown_lines.specs.Lines.{field_half, Reach, InField}
use Rattle.shown_lines.proofs.Fields.{whole_parts, whole-less}
use Rattle.shown_picture.specs.Window.{most_cells, picture, cell_of, Spread, Bounds}
use Rattle.shown.proofs.White.{place-parts, sum-parts, white-left, white-right, white-below, white-above}

-- ---- one axis
module _ (m : ℕ) (l : List ℤ) (some : 0 < m) (r : Reach m l) where
  abbrev h : ℕ → ℕ
  h i = halves field_half m l (Point i)

  -- a point's place is 256 of its halves
  halves_parts : (i : ℕ) → up (place_of field_half m l i) ≡ dn (place_of field_half m l i) + 256 * h i
  halves_parts i =
      let x = at l i in
      let w = pos m *ℤ (x +ℤ x) +ℤ pos (2 * field_half) in
      omega (
        arith,
        place-parts field_half m l i,
        nat_abs-is w,
        one-zero w,
        sum-parts field_half m x x,
        (whole_parts m x x some (r i) (r i)).0,
      )

  -- and rises as its coordinate does
  place-rises : (i j : ℕ) → at l i ≤ℤ at l j → up (place_of field_half m l i) + dn (place_of field_half m l j)
      ≤ up (place_of field_half m l j) + dn (place_of field_half m l i)
  place-rises i j g =
      let k : up (at l i) + dn (at l j) ≤ up (at l j) + dn (at l i) = omega (arith, signed) in
      omega (arith, place-parts field_half m l i, place-parts field_half m l j, mul-le-mul_left m k)

  module _ (n k q : ℕ) (s : Spread l n k q) where
    pub spans : Spans field_half m l n (256 * h k) (256 * h q)
    spans = record {
      from = λ i g. to-≤ℤ (pos (256 * h k)) (place_of field_half m l i) (omega (arith, halves_parts k, place-rises k i (s.from i g)));
      to = λ i g. to-≤ℤ (place_of field_half m l i) (pos (256 * h q)) (omega (arith, halves_parts q, place-rises i q (s.to i g)));
    }

    -- the window does not end in front of its start
    pub cells-rise : cell_of (h k) ≤ cell_of (h q)
    cells-rise = omega (arith, halves_parts k, halves_parts q, place-rises k q (s.from q s.largest_in))

    pub cells-most : cell_of (h q) ≤ most_cells
    cells-most = omega (arith, whole-less m (at l q) (at l q) some (r q) (r q))

-- ---- both
module _ (m : ℕ) (o : Points) (es : List ℕ) (n : ℕ) (ends : ends_hold 0 n es ≡ true) (f : InField o m) (k q u v : ℕ) (across : Spread o.xs n k q)
    (upward : Spread o.ys n u v) where
  abbrev hx : ℕ → ℕ
  hx i = halves field_half m o.xs (Point i)

  abbrev hy : ℕ → ℕ
  hy i = halves field_half m o.ys (Point i)

  pub bounds : {left right low high : ℕ} → left ≡ cell_of (hx k) → right ≡ cell_of (hx q) → low ≡ cell_of (hy u) → high ≡ cell_of (hy v)
      → Bounds (picture m o es) (record { left = left; columns = right - left; low = low; rows = high - low })
  bounds {left} {right} {low} {high} a b c d =
      let sx = spans m o.xs f.some f.wide n k q across in
      let sy = spans m o.ys f.some f.high n u v upward in
      let rx = cells-rise m o.xs f.some f.wide n k q across in
      let ry = cells-rise m o.ys f.some f.high n u v upward in
      record {
        white = record {
          in_front = λ i j g. white-left field_half m o n es ends _ _ sx i j (omega arith);
          behind = λ i j g. white-right field_half m o n es ends _ _ sx i j (omega arith);
          beneath = λ i j g. white-below field_half m o n es ends _ _ sy i j (omega arith);
          above = λ i j g. white-above field_half m o n es ends _ _ sy i j (omega arith);
        };
        wide = omega (arith, cells-most m o.xs f.some f.wide n k q across);
        high = omega (arith, cells-most m o.ys f.some f.high n u v upward);
      }

-- no contour, no line
pub bounds-none : (m : ℕ) (o : Points) (es : List ℕ) → length es ≡ 0 → Bounds (picture m o es) (record { left = 0; columns = 0; low = 0; rows = 0 })
unfolding lines_of ups downs
bounds-none m o [] e = record {
  white = record { in_front = λ i j g. refl; behind = λ i j g. refl; beneath = λ i j g. refl; above = λ i j g. refl };
  wide = omega arith;
  high = omega arith;
}
bounds-none m o (x ∷ es) e = absurd (omega arith)
