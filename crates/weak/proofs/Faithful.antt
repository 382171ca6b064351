-- Demand 3, for every outcome that the promise of `align_weak_points` allows with answer 0, so for every accepted outline: d are the currents at the end.
use mathlib.Core.Path.{◌≡◌, refl, sym, ◌∙◌, ap}
use mathlib.Core.Bool.{false}
use mathlib.Core.List.{List}
use mathlib.Core.Logic.{⊎_elim}
use mathlib.Core.Option.{Option, some, none}
use Prim.Native.Nat.{ℕ}
use native.Mathlib.Omega.{arith}
use lib.ListN.{length}
use lib.IntN.{ℤ}
use lib.Signed.{◌≤ℤ◌, ◌<ℤ◌}
use Rattle.signed.proofs.Signed.{signed}
use Rattle.weak_contour.specs.Contour.{at, Contour, is_touched, References, refs, references, first_of, second_of, between_at, interpolated}
use Rattle.weak.specs.Weak.{contour_of, on_contour, aligned_at, Outcome}
use Rattle.weak.specs.Steps.{Accepted}
use Rattle.weak.specs.Faithful.{Led, Faithful, Follows, Amid, InOrder, KeepsOrder, Demand3}
use Rattle.weak.proofs.Refusals.{accepted}
use Rattle.weak_contour.proofs.Searches.{unmarked}
use Rattle.weak_contour.proofs.Points.{weak-two}
use Rattle.weak.proofs.Contours.{Holds, contour-holds}
use Rattle.weak.proofs.Interpolated.{faithful-at, grows}
use Rattle.weak.proofs.Neighbours.{refs-ordered, refs-there, before-touched, behind-touched, refs-differ, low, high, around, spanned, rising}
use Rattle.weak.proofs.Determined.{result-at}

module _ (o c d : List ℤ) (t es : List ℕ) (outcome : Outcome o c t es 0 d) where
  -- the outline is accepted
  good : Accepted o c t es
  good = accepted o c t es (sym outcome.answer)

  -- an untouched point that has two references
  result-between : (i : ℕ) (k : Contour) (r : References) → contour_of 0 es i ≡ some k → is_touched t i ≡ false → references t k i ≡ some r
      → (r.before ≡ r.behind → ⊥)
      → at d i ≡ between_at o c r i
  unfolding aligned_at on_contour
  result-between i k r on un by two =
      let h = contour-holds 0 (length o) i es k (omega arith) good.ends on in
      ap (λ (l : List ℤ). at l i) outcome.currents ∙ result-at o c t es (sym outcome.answer) i (omega (arith, h, good.currents_length))
      ∙ rw on (weak-two o c t k i r.before r.behind (unmarked t i un) by two)

  -- (a) an untouched point on a contour with two or more touched points
  module _ (i : ℕ) (p : Led t es i) where
    -- it lies on its contour
    placed : Holds (length o) i p.contour
    placed = contour-holds 0 (length o) i es p.contour (omega arith) good.ends p.on

    module _ (r : References) (by : references t p.contour i ≡ some r) where
      -- its references are two points
      two : r.before ≡ r.behind → ⊥
      two = refs-differ t p.contour i placed.low placed.high p.more r by (unmarked t i p.untouched)

      -- an original strictly between theirs
      faithful : at o (first_of o r) <ℤ at o i → at o i <ℤ at o (second_of o r)
          → Faithful (at o i) (at o (first_of o r)) (at c (first_of o r)) (at o (second_of o r)) (at c (second_of o r)) (at d i)
      unfolding between_at
      faithful low high =
          let ordered = refs-ordered o c r good.originals good.currents in
          rw (result-between i p.contour r p.on p.untouched by two)
          (faithful-at (at o i) (at o (first_of o r)) (at c (first_of o r)) (at o (second_of o r)) (at c (second_of o r)) ordered (omega (arith, signed))
          (omega (arith, signed)))

    -- its references are there, and it follows them
    follows : Follows o c t p.contour i (at d i)
    follows = found (references t p.contour i) refl
      where
        found : (r : Option References) → references t p.contour i ≡ r → Follows o c t p.contour i (at d i)
        found none e = absurd (refs-there t p.contour i placed.low placed.high p.more e)
        found (some r) e =
            record {
              by = r;
              nearest = e;
              before = before-touched t p.contour i placed.low placed.high p.more r e;
              behind = behind-touched t p.contour i placed.low placed.high p.more r e;
              different = two r e;
              faithful = faithful r e;
            }

  -- (b) untouched points between two neighbouring touched points whose originals differ and whose currents are not in opposite order
  module _ (p q : ℕ) (ordered : InOrder o c p q) where
    -- where such a point comes to
    comes-to : (i : ℕ) → Amid t es p q i → at d i ≡ interpolated (at o i) (at o (low o p q)) (at c (low o p q)) (at o (high o p q)) (at c (high o p q))
    unfolding between_at
    comes-to i a =
        ⊎_elim (λ e. result-between i a.contour (refs p q) a.on a.untouched e (λ x. ordered.different (ap (at o) x)))
        (λ e. rw ((around o c p q ordered).0, (around o c p q ordered).1)
        at (result-between i a.contour (refs q p) a.on a.untouched e (λ x. ordered.different (sym (ap (at o) x)))))
        a.by

    -- none ends above one of higher original, since what is not higher ends not higher, but for the exception
    in_order : (i j : ℕ) → Amid t es p q i → Amid t es p q j → at o i ≤ℤ at o j
        → KeepsOrder (at o i) (at o j) (at o (low o p q)) (at o (high o p q)) (at d i) (at d j)
    in_order i j a b le =
        let refs-in-order = refs-ordered o c (refs p q) good.originals good.currents in
        rw (comes-to i a, comes-to j b)
        (grows (at o i) (at o j) (at o (low o p q)) (at c (low o p q)) (at o (high o p q)) (at c (high o p q)) refs-in-order (spanned o c p q ordered)
        (omega (arith, signed, rising o c p q ordered)) (omega (arith, signed)))

    -- and equal originals end equal
    equal : (i j : ℕ) → Amid t es p q i → Amid t es p q j → at o i ≡ at o j → at d i ≡ at d j
    equal i j a b e = cc (comes-to i a, comes-to j b)

  -- the demand
  pub demand_3 : Demand3 o c t es d
  demand_3 = record { follows = follows; in_order = in_order; equal = equal }
