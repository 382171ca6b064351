-- The references of a point: in their order, and two different touched points where two points are touched.
use mathlib.Core.Path.{◌≡◌, refl, sym, ◌∙◌, ap}
use mathlib.Core.Bool.{Bool, true, false}
use mathlib.Core.List.{List}
use mathlib.Core.Option.{some, none}
use Prim.Native.Nat.{ℕ, ◌+◌, ◌≤◌, ◌<◌}
use native.Mathlib.Omega.{arith}
use lib.ListN.{get_or}
use lib.IntN.{ℤ}
use lib.Signed.{lt_z, ◌≤ℤ◌}
use Rattle.signed.specs.Parts.{up, dn}
use Rattle.signed.proofs.Signed.{atmost, same, is-<ℤ, signed}
use Rattle.weak_contour.specs.Contour.{at, Contour, References, refs, references, first_of, second_of}
use Rattle.weak_contour.specs.Steps.{Coordinates, Ordered}
use Rattle.weak.specs.Faithful.{TouchedOn, TwoTouched, InOrder}
use Rattle.weak_contour.proofs.Searches.{is-touched, marked}
use Rattle.weak_contour.proofs.References.{refs-on, refs-missing, refs-same}
use Rattle.weak_contour.proofs.Spans.{apart}

-- the first has no larger original
refs-order : (o : List ℤ) (r : References) → at o (first_of o r) ≤ℤ at o (second_of o r)
unfolding first_of second_of
refs-order o r = by (lt_z (at o r.behind) (at o r.before)) refl
  where
    by : (t : Bool) → lt_z (at o r.behind) (at o r.before) ≡ t → at o (first_of o r) ≤ℤ at o (second_of o r)
    by true e = rw e (atmost (omega (arith, signed)))
    by false e = rw e (atmost (omega (arith, signed)))

-- and all their coordinates are accepted where the lists' are
pub refs-ordered : (o c : List ℤ) (r : References) → Coordinates o → Coordinates c
    → Ordered (at o (first_of o r)) (at c (first_of o r)) (at o (second_of o r)) (at c (second_of o r))
refs-ordered o c r ho hc =
    record { original1 = ho (first_of o r); current1 = hc (first_of o r); original2 = ho (second_of o r); current2 = hc (second_of o r); order = refs-order o r }

-- ---- the references of an untouched point on a contour with two touched points
module _ (t : List ℕ) (k : Contour) (i : ℕ) (inside : k.start ≤ i) (below : i < k.end) (w : TwoTouched t k) where
  -- they are there
  pub refs-there : references t k i ≡ none → ⊥
  refs-there e = omega (arith, refs-missing t k i inside below e w.x w.x_on.high w.x_on.low, marked t w.x w.x_on.touched)

  module _ (r : References) (e : references t k i ≡ some r) where
    -- they are touched points of the contour
    pub before-touched : TouchedOn t k r.before
    before-touched = let a = (refs-on t k i inside below r e).0 in record { low = a.0; high = a.1; touched = is-touched t r.before a.2 }

    pub behind-touched : TouchedOn t k r.behind
    behind-touched = let a = (refs-on t k i inside below r e).1 in record { low = a.0; high = a.1; touched = is-touched t r.behind a.2 }

    -- and they differ
    pub refs-differ : get_or t i 0 ≡ 0 → r.before ≡ r.behind → ⊥
    refs-differ free q =
        let f = e ∙ ap (λ (b : ℕ). some (refs r.before b)) (sym q) in
        w.different
        (refs-same t k i inside below r.before free f w.x w.x_on.low w.x_on.high (marked t w.x w.x_on.touched)
        ∙ sym (refs-same t k i inside below r.before free f w.y w.y_on.low w.y_on.high (marked t w.y w.y_on.touched)))

-- ---- two neighbouring touched points p and q
-- the one of smaller original
abbrev pub low : List ℤ → ℕ → ℕ → ℕ
low o p q = first_of o (refs p q)

-- the other one
abbrev pub high : List ℤ → ℕ → ℕ → ℕ
high o p q = second_of o (refs p q)

module _ (o c : List ℤ) (p q : ℕ) (ordered : InOrder o c p q) where
  -- which one that is does not depend on the way round
  pub around : (first_of o (refs q p) ≡ low o p q) × (second_of o (refs q p) ≡ high o p q)
  unfolding first_of second_of
  around = by (lt_z (at o q) (at o p)) (lt_z (at o p) (at o q)) refl refl
    where
      by : (x y : Bool) → lt_z (at o q) (at o p) ≡ x → lt_z (at o p) (at o q) ≡ y → (first_of o (refs q p) ≡ low o p q) × (second_of o (refs q p) ≡ high o p q)
      by true true e f = absurd (omega (arith, signed))
      by true false e f = rw (e, f) (refl, refl)
      by false true e f = rw (e, f) (refl, refl)
      by false false e f = absurd (ordered.different (same (omega (arith, signed))))

  -- their originals differ
  differ : at o (low o p q) ≡ at o (high o p q) → ⊥
  unfolding first_of second_of
  differ = by (lt_z (at o q) (at o p)) refl
    where
      by : (x : Bool) → lt_z (at o q) (at o p) ≡ x → at o (low o p q) ≡ at o (high o p q) → ⊥
      by true e = rw e (λ z. ordered.different (sym z))
      by false e = rw e ordered.different

  -- so they are a span apart
  pub spanned : up (at o (low o p q)) + dn (at o (high o p q)) < up (at o (high o p q)) + dn (at o (low o p q))
  spanned = apart (at o (low o p q)) (at c (low o p q)) (at o (high o p q)) (at c (high o p q)) (refs-order o (refs p q)) differ

  -- and the first's current is not above the second's
  pub rising : at c (low o p q) ≤ℤ at c (high o p q)
  unfolding first_of second_of
  rising = by (lt_z (at o q) (at o p)) (lt_z (at o p) (at o q)) refl refl
    where
      by : (x y : Bool) → lt_z (at o q) (at o p) ≡ x → lt_z (at o p) (at o q) ≡ y → at c (low o p q) ≤ℤ at c (high o p q)
      by true y e f = rw e (ordered.downward (is-<ℤ (at o q) (at o p) e))
      by false true e f = rw e (ordered.upward (is-<ℤ (at o p) (at o q) f))
      by false false e f = absurd (ordered.different (same (omega (arith, signed))))
