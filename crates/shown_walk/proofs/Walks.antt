-- The lines of a contour, point by point of its walk. An on-curve point behind a curve stands where the curve ends: the line to it has no height. Assumes
-- nothing.
use mathlib.Core.Path.{◌≡◌, refl, sym, ap, ◌∙◌, subst}
use mathlib.Core.Bool.{Bool, true, false, cond}
use mathlib.Core.List.{List, [], ◌∷◌, ◌++◌}
use Prim.Native.Nat.{ℕ, suc, ◌+◌, ◌-◌, ◌≤◌, ◌<◌}
use native.Mathlib.Omega.{arith}
use lib.ListN.{length, get_or, drop, drop_of_length-le}
use Rattle.signed.proofs.Choices.{clash}
use Rattle.weak.proofs.Refusals.{drop-one}
use Rattle.path_trip.specs.Path.{Points, on_curve, round_of, Round}
use Rattle.path_trip.specs.declared.tour.Spot.{Spot}
use Rattle.path_trip.specs.declared.tour.Spot.TheVariants.{Point, Between}
use Rattle.path_trip.specs.Legs.{Leg, line, curve, curve_to, legs, Tour, tour_of}
use Rattle.path_trip.specs.Trips.{around, Walk}
use Rattle.path_trip.proofs.Pictures.{round-of}
use Rattle.path_walk.specs.Steps.{end_of, EndInside}
use Rattle.path_walk.specs.declared.walk.End.{End}
use Rattle.path_walk.specs.declared.walk.End.TheVariants as Ends
use Rattle.path_walk.proofs.Seeks.{one_more}
use Rattle.shown.specs.Shown.{Side, spot_at, places, lines_by, contour_lines, lines_of}
use Rattle.shown_lines.specs.declared.place.Halves.{Halves}
use Rattle.shown_lines.specs.Lines.{field_half, halves_at, end_at, straight, curve_sides}
use Rattle.shown_lines.proofs.Winding.{Alike, alike_same, alike-more, alike-flat}
use Rattle.shown_lines.proofs.Curves.{curve-lines}

-- ---- the lines from the place p on by these points, and back to the start
unfoldable pub walk_sides : Points → ℕ → Spot → Halves → List ℕ → List Side
walk_sides o m start p [] = straight p (halves_at o m start) ∷ []
walk_sides o m start p (i ∷ is) =
    cond (on_curve o i)
    ((straight p (halves_at o m (Point i)) ∷ []) ++ walk_sides o m start (halves_at o m (Point i)) is)
    (curve_sides p (halves_at o m (Point i)) (halves_at o m (curve_to o start i is)) 0 16 ++ walk_sides o m start (halves_at o m (curve_to o start i is)) is)

module _ (o : Points) (m : ℕ) (start : Spot) where
  -- the place s stands at the first of these points, where that is on the curve
  abbrev Behind : Spot → List ℕ → Type 0
  Behind s w = (i : ℕ) (is : List ℕ) → w ≡ i ∷ is → on_curve o i ≡ true → s ≡ Point i

  behind-curve : (i : ℕ) (is : List ℕ) → Behind (curve_to o start i is) is
  unfolding curve_to
  behind-curve i is j js e h = rw (e, h)

  -- the lines of a contour from s on
  abbrev lines_from : Spot → List Leg → List Side
  lines_from s ls = lines_by (spot_at field_half m o start) (spot_at field_half m o s) (places field_half m o s ls)

  line-legs : (s : Spot) (i : ℕ) (ls : List Leg) → lines_from s (line i ∷ ls)
      ≡ (straight (halves_at o m s) (halves_at o m (Point i)) ∷ []) ++ lines_from (Point i) ls
  unfolding lines_by places
  line-legs s i ls = refl

  curve-legs : (s : Spot) (i : ℕ) (e : Spot) (ls : List Leg)
      → lines_from s (curve i e ∷ ls) ≡ curve_sides (halves_at o m s) (halves_at o m (Point i)) (halves_at o m e) 0 16 ++ lines_from e ls
  unfolding places
  curve-legs s i e ls = curve-lines m o s i e (spot_at field_half m o start) (places field_half m o e ls)

  no-legs : (s : Spot) → lines_from s [] ≡ straight (halves_at o m s) (halves_at o m start) ∷ []
  unfolding lines_by places
  no-legs s = refl

  alike-line : (s : Spot) (i : ℕ) (ls : List Leg) (t : List Side) → Alike (lines_from (Point i) ls) t
      → Alike (lines_from s (line i ∷ ls)) ((straight (halves_at o m s) (halves_at o m (Point i)) ∷ []) ++ t)
  alike-line s i ls t a =
      let r = straight (halves_at o m s) (halves_at o m (Point i)) ∷ [] in
      subst (λ (x : List Side). Alike x (r ++ t)) (sym (line-legs s i ls)) (alike-more r (lines_from (Point i) ls) t a)

  alike-curve : (s : Spot) (i : ℕ) (e : Spot) (ls : List Leg) (t : List Side) → Alike (lines_from e ls) t
      → Alike (lines_from s (curve i e ∷ ls)) (curve_sides (halves_at o m s) (halves_at o m (Point i)) (halves_at o m e) 0 16 ++ t)
  alike-curve s i e ls t a =
      let r = curve_sides (halves_at o m s) (halves_at o m (Point i)) (halves_at o m e) 0 16 in
      subst (λ (x : List Side). Alike x (r ++ t)) (sym (curve-legs s i e ls)) (alike-more r (lines_from e ls) t a)

  -- an on-curve point behind a curve
  alike-behind : (s : Spot) (i : ℕ) (ls : List Leg) (t : List Side) → s ≡ Point i → Alike (lines_from (Point i) ls) t
      → Alike (lines_from s ls) ((straight (halves_at o m s) (halves_at o m (Point i)) ∷ []) ++ t)
  alike-behind s i ls t e a =
      subst (λ (x : Spot). Alike (lines_from x ls) ((straight (halves_at o m x) (halves_at o m (Point i)) ∷ []) ++ t)) (sym e)
      (alike-flat (spot_at field_half m o (Point i)) (lines_from (Point i) ls) t a)

  pub walk-alike : (on : Bool) (s : Spot) (w : List ℕ) → (on ≡ false → Behind s w)
      → Alike (lines_from s (legs o start on w)) (walk_sides o m start (halves_at o m s) w)
  unfolding legs walk_sides
  walk-alike on s [] b = subst (λ (x : List Side). Alike (lines_from s []) x) (no-legs s) (alike_same (lines_from s []))
  walk-alike on s (i ∷ is) b =
      by (on_curve o i) on
      (walk-alike true (Point i) is (λ e. absurd (clash true e refl)))
      (walk-alike false (curve_to o start i is) is (λ e. behind-curve i is))
      (λ e c. b e i is refl c)
    where
      by : (c on : Bool)
          → Alike (lines_from (Point i) (legs o start true is)) (walk_sides o m start (halves_at o m (Point i)) is)
          → Alike (lines_from (curve_to o start i is) (legs o start false is)) (walk_sides o m start (halves_at o m (curve_to o start i is)) is)
          → (on ≡ false → c ≡ true → s ≡ Point i)
          → Alike (lines_from s (cond c (cond on (line i ∷ legs o start true is) (legs o start true is))
          (curve i (curve_to o start i is) ∷ legs o start false is)))
          (cond c ((straight (halves_at o m s) (halves_at o m (Point i)) ∷ []) ++ walk_sides o m start (halves_at o m (Point i)) is)
          (curve_sides (halves_at o m s) (halves_at o m (Point i)) (halves_at o m (curve_to o start i is)) 0 16
          ++ walk_sides o m start (halves_at o m (curve_to o start i is)) is))
      by true true p q b = alike-line s i (legs o start true is) (walk_sides o m start (halves_at o m (Point i)) is) p
      by true false p q b = alike-behind s i (legs o start true is) (walk_sides o m start (halves_at o m (Point i)) is) (b refl refl) p
      by false on p q b = alike-curve s i (curve_to o start i is) (legs o start false is) (walk_sides o m start (halves_at o m (curve_to o start i is)) is) q

-- the lines of a contour
pub contour-alike : (o : Points) (m : ℕ) (t : Tour) → Alike (contour_lines field_half m o t)
    (walk_sides o m t.start (halves_at o m t.start) (drop 0 t.walk))
contour-alike o m t = walk-alike o m t.start true t.start t.walk (λ e. absurd (clash true e refl))

-- ---- one point at a time
-- where a curve ends
end-at : (o : Points) (m : ℕ) (start : Spot) (i : ℕ) (is : List ℕ) → end_at o m (halves_at o m start) (end_of o i is) ≡ halves_at o m (curve_to o start i is)
unfolding end_of curve_to
end-at o m start i [] = refl
end-at o m start i (j ∷ js) = by (on_curve o j)
  where
    by : (b : Bool) → end_at o m (halves_at o m start) (cond b (Ends.Point j) (Ends.Between i j)) ≡ halves_at o m (cond b (Point j) (Between i j))
    by true = refl
    by false = refl

module _ (o : Points) (m : ℕ) (start : Spot) (p : Halves) where
  line_first : (i : ℕ) (is : List ℕ) → on_curve o i ≡ true
      → walk_sides o m start p (i ∷ is) ≡ (straight p (halves_at o m (Point i)) ∷ []) ++ walk_sides o m start (halves_at o m (Point i)) is
  unfolding walk_sides
  line_first i is q = rw q

  curve-first : (i : ℕ) (is : List ℕ) → on_curve o i ≡ false
      → walk_sides o m start p (i ∷ is)
      ≡ curve_sides p (halves_at o m (Point i)) (halves_at o m (curve_to o start i is)) 0 16 ++ walk_sides o m start (halves_at o m (curve_to o start i is)) is
  unfolding walk_sides
  curve-first i is q = rw q

  none_left : walk_sides o m start p [] ≡ (straight p (halves_at o m start) ∷ []) ++ []
  unfolding walk_sides
  none_left = refl

  module _ (w : List ℕ) (a e s n : ℕ) (t : Walk w a e s n) where
    next : (j i : ℕ) → j < n → i ≡ around a e (s + j) → drop j w ≡ i ∷ drop (j + 1) w
    next j i h f = one_more w a e s n t j h ∙ ap (λ (k : ℕ). k ∷ drop (j + 1) w) (sym f)

    -- a point on the curve
    pub turn-line : (j i : ℕ) (c : Halves) → j < n → i ≡ around a e (s + j) → on_curve o i ≡ true → c ≡ halves_at o m (Point i)
        → walk_sides o m start p (drop j w) ≡ (straight p c ∷ []) ++ walk_sides o m start c (drop (j + 1) w)
    turn-line j i c h f q g =
        ap (walk_sides o m start p) (next j i h f) ∙ line_first i (drop (j + 1) w) q
        ∙ λ k. (straight p (sym g k) ∷ []) ++ walk_sides o m start (sym g k) (drop (j + 1) w)

    -- a point off it
    pub turn-curve : (j i : ℕ) (c q st : Halves) (end : End) → j < n → i ≡ around a e (s + j) → on_curve o i ≡ false → c ≡ halves_at o m (Point i)
        → st ≡ halves_at o m start → end ≡ end_of o (around a e (s + j)) (drop (j + 1) w) → q ≡ end_at o m st end
        → walk_sides o m start p (drop j w) ≡ curve_sides p c q 0 16 ++ walk_sides o m start q (drop (j + 1) w)
    turn-curve j i c q st end h f off g b d z =
        let y : halves_at o m (curve_to o start i (drop (j + 1) w)) ≡ q =
        sym (z ∙ (λ k. end_at o m (b k) ((d ∙ ap (λ (x : ℕ). end_of o x (drop (j + 1) w)) (sym f)) k)) ∙ end-at o m start i (drop (j + 1) w)) in
        ap (walk_sides o m start p) (next j i h f) ∙ curve-first i (drop (j + 1) w) off
        ∙ λ k. curve_sides p (sym g k) (y k) 0 16 ++ walk_sides o m start (y k) (drop (j + 1) w)

    -- no point is left
    pub turn-back : (j : ℕ) (st : Halves) → n ≤ j → st ≡ halves_at o m start → walk_sides o m start p (drop j w) ≡ (straight p st ∷ []) ++ []
    turn-back j st h b = ap (walk_sides o m start p) (drop_of_length-le w {i = j} (omega (arith, t.len))) ∙ none_left ∙ λ k. (straight p (sym b k) ∷ []) ++ []

-- what is below a smaller count
pub end_more : (n m : ℕ) → n ≤ m → (x : End) → EndInside n x → EndInside m x
end_more n m h Ends.Start l = omega arith
end_more n m h (Ends.Point i) l = omega arith
end_more n m h (Ends.Between i j) l = (omega (arith, l.0), omega (arith, l.1))

-- the walk by place and by index is the same
pub walk_same : (o : Points) (a e : ℕ) → (round_of o a e).walk ≡ (tour_of o a e).walk
walk_same o a e = ap (λ (r : Round). r.walk) (round-of o a e)

-- ---- the outline, one contour at a time
module _ (m : ℕ) (o : Points) (a : ℕ) (es : List ℕ) (c : ℕ) where
  pub outline-turn : (w : ℕ) → c < length es → w ≡ get_or es c 0
      → lines_of field_half m o a (drop c es) ≡ contour_lines field_half m o (tour_of o a (w + 1 - 1)) ++ lines_of field_half m o (w + 1) (drop (c + 1) es)
  unfolding lines_of
  outline-turn w h e =
      let p : get_or es c 0 ≡ w + 1 - 1 = omega arith in
      let q : suc (get_or es c 0) ≡ w + 1 = omega arith in
      ap (lines_of field_half m o a) (drop-one es c 0 h) ∙ λ i. contour_lines field_half m o (tour_of o a (p i)) ++ lines_of field_half m o (q i) (drop (c + 1) es)

  pub outline-end : length es ≤ c → lines_of field_half m o a (drop c es) ≡ []
  unfolding lines_of
  outline-end h = rw (drop_of_length-le es {i = c} h)
