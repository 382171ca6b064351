-- The shape of a path.
use mathlib.Core.Path.{◌≡◌, refl, sym, ap, ◌∙◌}
use mathlib.Core.Bool.{Bool, true, false, cond, ◌&&◌}
use mathlib.Core.List.{List, [], ◌∷◌, ◌++◌}
use Prim.Native.Nat.{ℕ, suc, ◌+◌, ◌-◌, ◌≤◌}
use native.Mathlib.Omega.{arith}
use borrow.Author.Tests.{leb-true}
use lib.Dec.{leb, ltb}
use lib.IntN.{ℤ}
use Rattle.signed.proofs.Choices.{clash}
use Rattle.refusals.specs.Refusal.{refusal}
use Rattle.refusals.proofs.Tests.{and_first, and_second}
use Rattle.weak.specs.Weak.{ends_hold}
use Rattle.path_trip.specs.Path.{Points, points, on_curve, from, front, rest}
use Rattle.path.specs.Handing.{path_tests}
use Rattle.path.proofs.Named.{accepted}
use Rattle.path_trip.specs.declared.tour.Spot.TheVariants.{Point}
use Rattle.path_trip.specs.Legs.{tour_by, tour_of, picture_of}
use Rattle.path_shape.specs.Shape.{here, last_on, Shaped, AllShaped}
use Rattle.path_trip.proofs.Pictures.{steps-are}
use Rattle.path_shape.proofs.Ends.{occurs, here-not, here-is, ends-are, lines-few, occurs-two, occurs-once, parts_whole, first_on, none-on}

neither-way : (b : Bool) → ◌≡◌ {A = ℕ} (cond b 0 0) 0
neither-way true = refl
neither-way false = refl

-- one contour
module _ (o : Points) (a e : ℕ) (h : a ≤ e) where
  abbrev whole : List ℕ
  whole = from a (suc e - a)

  -- where a point stands in the parts of the contour
  parted : (i f : ℕ) (behind : List ℕ) → rest o whole ≡ f ∷ behind → a ≤ i → i ≤ e → occurs i (front o whole) + (here i f + occurs i behind) ≡ 1
  unfolding occurs
  parted i f behind q x y =
      ap (λ (l : List ℕ). occurs i (front o whole) + occurs i l) (sym q)
      ∙ sym (occurs-two i (front o whole) (rest o whole))
      ∙ ap (occurs i) (parts_whole o whole)
      ∙ occurs-once i a (suc e - a) x (omega arith)

  shape : (l : List ℕ) → rest o whole ≡ l → Shaped o a e (tour_by a e (front o whole) l)
  unfolding tour_of tour_by
  shape [] q =
      let off = none-on o (suc e - a) a q in
      record {
        steps = steps-are o a e ∙ ap (λ (l : List ℕ). picture_of o (tour_by a e (front o whole) l)) q;
        starts = (refl, refl, λ z x y. off z x (omega arith));
        once = λ i x y on n. absurd (clash (on_curve o i) (off i x (omega arith)) on);
        start_ends = refl;
      }
  shape (f ∷ behind) q =
      let g = first_on o (suc e - a) a f behind q in
      let walk = behind ++ front o whole in
      record {
        steps = steps-are o a e ∙ ap (λ (l : List ℕ). picture_of o (tour_by a e (front o whole) l)) q;
        starts = (g.low, omega (arith, g.high), g.on, g.off);
        once = λ i x y on n.
            let z = here-not i f (λ p. n (ap Point (sym p))) in
            let w = ap (cond (last_on o true walk) 0) z ∙ neither-way (last_on o true walk) in
            ends-are o (Point f) i on walk ∙ omega (arith, z, w, parted i f behind q x y, occurs-two i behind (front o whole));
        start_ends =
            let z = here-is f f refl in
            let m = parted f f behind q g.low (omega (arith, g.high)) in
            let w : occurs f walk ≡ 0 = omega (arith, z, m, occurs-two f behind (front o whole)) in (
              omega (arith, w, lines-few o (Point f) f true walk),
              ends-are o (Point f) f g.on walk ∙ (λ k. w k + cond (last_on o true walk) 0 (z k))
                  ∙ omega arith,
            );
      }

-- every contour of an outline whose ends hold
all-shaped : (o : Points) (n a : ℕ) (es : List ℕ) → ends_hold a n es ≡ true → AllShaped o a es
unfolding ends_hold tour_of
all-shaped o n a [] h = refl
all-shaped o n a (e ∷ es) h =
    let p = and_second (leb a e) (ltb e n && ends_hold (suc e) n es) h in
    let low = leb-true a e (and_first (leb a e) (ltb e n && ends_hold (suc e) n es) h) in
    (shape o a e low (rest o (from a (suc e - a))) refl, all-shaped o n (suc e) es (and_second (ltb e n) (ends_hold (suc e) n es) p))

-- every contour of an accepted outline
pub shaped : (xs ys : List ℤ) (marks es : List ℕ) → refusal (path_tests xs ys marks es) ≡ 0 → AllShaped (points xs ys marks) 0 es
shaped xs ys marks es e = all-shaped (points xs ys marks) _ 0 es (accepted xs ys marks es e).1
