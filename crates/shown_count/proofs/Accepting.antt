-- The refusals: the magnification between the lists and the contour ends, coordinates by a limit for all, and what an accepted outline is. Assumes nothing.
use Rattle.std.specs.Prelude.{Result, Ok, Err}
use Rattle.std.specs.Result.{result_eq}
use denote.Enum.Bare.{sameb}
use Rattle.refusals.specs.contracts.order.Refusal.{the_type}
use Rattle.refusals.specs.declared.order.Refusal.{Refusal}
use Rattle.refusals.specs.declared.order.Refusal.TheVariants as Refusals
use Rattle.refusals.specs.Outcome.{answer_of, Required}
use mathlib.Core.Path.{◌≡◌, refl, sym, ap, subst, ◌∙◌}
use mathlib.Core.Bool.{Bool, true, false, cond, ◌&&◌}
use mathlib.Core.List.{List, [], ◌∷◌}
use Prim.Native.Nat.{ℕ, zero, suc, ◌*◌, ◌/◌, ◌≤◌, ◌<◌}
use native.Mathlib.Nat.{div-mul-le_self, lt-div-mul-add, mul-le-mul_left, mul-le-mul_right}
use native.Mathlib.Omega.{arith}
use borrow.Author.Tests.{leb-true, leb-false, le-leb, lt-leb, eqb-true}
use lib.Dec.{leb, eqb}
use lib.ListN.{length}
use lib.IntN.{ℤ, pos, nat_abs, ◌*ℤ◌}
use lib.Signed.{le_z, ◌<ℤ◌}
use Rattle.signed.proofs.Signed.{signed, nat_abs-is, one-zero, nat_abs_mul, below}
use Rattle.refusals.specs.Refusal.{refusal, out_of_range}
use Rattle.refusals.proofs.Tests.{and_first, and_second, all_hold}
use Rattle.axis.specs.Refusals.{inside}
use Rattle.weak_contour.specs.Limits.{most_points, most_coordinate}
use Rattle.weak_contour.specs.Contour.{at}
use Rattle.weak.specs.Weak.{ends_hold, coordinate_holds, coordinates_hold, list_tests, range_tests}
use Rattle.path_trip.specs.Path.{points}
use Rattle.path_trip.specs.Trips.{Admitted}
use Rattle.shown_lines.specs.Lines.{most_magnify, Reach, InField}
use Rattle.shown_count.specs.Count.{magnified, shown_tests}

-- ---- the outcomes, as the code tests them
-- whether the lists are refused by 1
pub long-tested : (same : Unit {0} → Unit {0} → Bool) (o : Result (Unit {0}) Refusal) → result_eq same (sameb the_type) o (Err Refusals.TooLong) ≡ eqb (answer_of o) 1
long-tested same (Ok x) = refl
long-tested same (Err Refusals.TooLong) = refl
long-tested same (Err Refusals.BadParameter) = refl
long-tested same (Err Refusals.BadIndex) = refl
long-tested same (Err Refusals.OutOfRange) = refl
long-tested same (Err Refusals.NoRoom) = refl
long-tested same (Err Refusals.BrokenRing) = refl
long-tested same (Err Refusals.NotFrame) = refl
long-tested same (Err Refusals.TooSteep) = refl
long-tested same (Err Refusals.Unmatched) = refl
long-tested same (Err Refusals.Retired) = refl
long-tested same (Err Refusals.NotWords) = refl

-- a test that refuses
pub required-no : (g : Bool) (r e : Refusal) → Required g r (Err e) → (g ≡ false) × (e ≡ r)
required-no true r e q = let z : ◌≡◌ {A = Result (Unit {0}) Refusal} (Err e) (Ok tt) = q.outcome in cc
required-no false r e q = let z : ◌≡◌ {A = Result (Unit {0}) Refusal} (Err e) (Err r) = q.outcome in (refl, cc)

-- ---- the order
-- the refusal by lists and contour ends, by the first four tests
abbrev listed : Bool → Bool → Bool → Bool → ℕ
listed a b c e = cond a (cond b (cond c (cond e 0 3) 1) 1) 1

-- that of a call, with the test of the magnification and the refusal by coordinates
abbrev ordered : Bool → Bool → Bool → Bool → Bool → ℕ → ℕ
ordered a b c p e r = cond a (cond b (cond c (cond p (cond e r 3) 2) 1) 1) 1

by-lists : (a b c p e : Bool) (r : ℕ) → listed a b c e ≡ 1 → ordered a b c p e r ≡ 1
by-lists true true true p true r h = absurd (omega (arith, h))
by-lists true true true p false r h = absurd (omega (arith, h))
by-lists true true false p e r h = refl
by-lists true false c p e r h = refl
by-lists false b c p e r h = refl

by-magnification : (a b c p e : Bool) (r : ℕ) → (listed a b c e ≡ 1 → ⊥) → p ≡ false → ordered a b c p e r ≡ 2
by-magnification true true true p e r h q = ap (λ (x : Bool). cond x (cond e r 3) 2) q
by-magnification true true false p e r h q = absurd (h refl)
by-magnification true false c p e r h q = absurd (h refl)
by-magnification false b c p e r h q = absurd (h refl)

by-ends : (a b c p e : Bool) (r : ℕ) → (listed a b c e ≡ 1 → ⊥) → p ≡ true → 0 < listed a b c e → ordered a b c p e r ≡ listed a b c e
by-ends true true true p true r h q l = absurd (omega arith)
by-ends true true true p false r h q l = ap (λ (x : Bool). cond x 3 2) q
by-ends true true false p e r h q l = absurd (h refl)
by-ends true false c p e r h q l = absurd (h refl)
by-ends false b c p e r h q l = absurd (h refl)

by-coordinates : (a b c p e : Bool) (r : ℕ) → (listed a b c e ≡ 1 → ⊥) → p ≡ true → listed a b c e ≤ 0 → ordered a b c p e r ≡ r
by-coordinates true true true p true r h q l = ap (λ (x : Bool). cond x r 2) q
by-coordinates true true true p false r h q l = absurd (omega arith)
by-coordinates true true false p e r h q l = absurd (h refl)
by-coordinates true false c p e r h q l = absurd (h refl)
by-coordinates false b c p e r h q l = absurd (h refl)

-- ---- coordinates by a limit for all
holds-magnified : (m : ℤ) (k : ℕ) → k ≡ nat_abs m → 0 < k → (z : ℤ) → coordinate_holds (most_coordinate / k) z ≡ coordinate_holds most_coordinate (m *ℤ z)
unfolding coordinate_holds
holds-magnified m k e h z = by (leb (nat_abs z) (most_coordinate / k)) refl
  where
    product : nat_abs (m *ℤ z) ≡ k * nat_abs z
    product = nat_abs_mul m z ∙ ap (λ (x : ℕ). x * nat_abs z) (sym e)

    by : (b : Bool) → leb (nat_abs z) (most_coordinate / k) ≡ b → b ≡ leb (nat_abs (m *ℤ z)) most_coordinate
    by true q =
        let l = leb-true (nat_abs z) (most_coordinate / k) q in
        sym (le-leb (nat_abs (m *ℤ z)) most_coordinate (omega (arith, product, mul-le-mul_left k l, div-mul-le_self most_coordinate k)))
    by false q =
        let l = leb-false (nat_abs z) (most_coordinate / k) q in
        sym (lt-leb (nat_abs (m *ℤ z)) most_coordinate (omega (arith, product, mul-le-mul_left k l, lt-div-mul-add {a = most_coordinate} {b = k} h)))

hold-magnified : (m : ℤ) (k : ℕ) → k ≡ nat_abs m → 0 < k → (l : List ℤ) → coordinates_hold (most_coordinate / k) l ≡ coordinates_hold most_coordinate (magnified m l)
unfolding coordinates_hold
hold-magnified m k e h [] = refl
hold-magnified m k e h (z ∷ l) = let p = holds-magnified m k e h z in let q = hold-magnified m k e h l in λ i. p i && q i

pub range-magnified : (m : ℤ) (k : ℕ) → k ≡ nat_abs m → 0 < k → (xs ys : List ℤ)
    → refusal (range_tests (most_coordinate / k) xs ys) ≡ refusal (range_tests most_coordinate (magnified m xs) (magnified m ys))
unfolding refusal
range-magnified m k e h xs ys =
    let p = hold-magnified m k e h xs in
    let q = hold-magnified m k e h ys in
    λ i. cond (p i) (cond (q i) 0 out_of_range) out_of_range

-- ---- the refusal of a call
module _ (xs ys : List ℤ) (marks es : List ℕ) (m : ℤ) {k : ℕ} (e : k ≡ refusal (list_tests xs ys marks es)) where
  pub refused-lists : k ≡ 1 → refusal (shown_tests xs ys marks es m) ≡ 1
  unfolding refusal
  refused-lists q =
      by-lists (leb (length xs) most_points) (eqb (length ys) (length xs)) (eqb (length marks) (length xs)) (inside (pos 1) (pos most_magnify) m)
      (ends_hold 0 (length xs) es) _ (sym e ∙ q)

  module _ (q : k ≡ 1 → ⊥) where
    pub refused-magnification : inside (pos 1) (pos most_magnify) m ≡ false → refusal (shown_tests xs ys marks es m) ≡ 2
    unfolding refusal
    refused-magnification t =
        by-magnification (leb (length xs) most_points) (eqb (length ys) (length xs)) (eqb (length marks) (length xs)) (inside (pos 1) (pos most_magnify) m)
        (ends_hold 0 (length xs) es) _
        (λ (z : refusal (list_tests xs ys marks es) ≡ 1). q (e ∙ z)) t

    pub refused-ends : inside (pos 1) (pos most_magnify) m ≡ true → 0 < k → refusal (shown_tests xs ys marks es m) ≡ k
    unfolding refusal
    refused-ends t l =
        by-ends (leb (length xs) most_points) (eqb (length ys) (length xs)) (eqb (length marks) (length xs)) (inside (pos 1) (pos most_magnify) m)
        (ends_hold 0 (length xs) es) _
        (λ (z : refusal (list_tests xs ys marks es) ≡ 1). q (e ∙ z)) t (subst (λ (n : ℕ). 0 < n) e l)
        ∙ sym e

    pub refused-else : inside (pos 1) (pos most_magnify) m ≡ true → k ≤ 0
        → refusal (shown_tests xs ys marks es m) ≡ refusal (range_tests most_coordinate (magnified m xs) (magnified m ys))
    unfolding refusal
    refused-else t l =
        by-coordinates (leb (length xs) most_points) (eqb (length ys) (length xs)) (eqb (length marks) (length xs)) (inside (pos 1) (pos most_magnify) m)
        (ends_hold 0 (length xs) es) _
        (λ (z : refusal (list_tests xs ys marks es) ≡ 1). q (e ∙ z)) t (subst (λ (n : ℕ). n ≤ 0) e l)

-- ---- what is not refused
-- a magnification that passes
pub above-none : (m : ℤ) → inside (pos 1) (pos most_magnify) m ≡ true → pos 0 <ℤ m
above-none m e = let l = and_first (le_z (pos 1) m) (le_z m (pos most_magnify)) e in below (omega (arith, signed))

pub times-some : (m : ℤ) → inside (pos 1) (pos most_magnify) m ≡ true → 0 < nat_abs m
times-some m e = let l = and_first (le_z (pos 1) m) (le_z m (pos most_magnify)) e in omega (arith, signed, nat_abs-is m, one-zero m)

times-most : (m : ℤ) → inside (pos 1) (pos most_magnify) m ≡ true → nat_abs m ≤ most_magnify
times-most m e =
    let l = and_first (le_z (pos 1) m) (le_z m (pos most_magnify)) e in
    let k = and_second (le_z (pos 1) m) (le_z m (pos most_magnify)) e in
    omega (arith, signed, nat_abs-is m, one-zero m)

-- coordinates that pass
reached : (m : ℤ) (l : List ℤ) → coordinates_hold most_coordinate (magnified m l) ≡ true → Reach (nat_abs m) l
unfolding coordinates_hold coordinate_holds
reached m [] e i = omega arith
reached m (z ∷ l) e zero =
    omega (
      arith,
      nat_abs_mul m z,
      leb-true (nat_abs (m *ℤ z)) most_coordinate
          (and_first (leb (nat_abs (m *ℤ z)) most_coordinate) (coordinates_hold most_coordinate (magnified m l)) e),
    )
reached m (z ∷ l) e (suc i) = reached m l (and_second (leb (nat_abs (m *ℤ z)) most_coordinate) (coordinates_hold most_coordinate (magnified m l)) e) i

-- an outline of whose tests none fails
pub record Passed (xs ys : List ℤ) (marks es : List ℕ) (m : ℤ) : Type 0 where
  pub admitted : Admitted (points xs ys marks)
  pub ends : ends_hold 0 (length xs) es ≡ true
  pub some : pos 0 <ℤ m
  pub field : InField (points xs ys marks) (nat_abs m)

pub passed : (xs ys : List ℤ) (marks es : List ℕ) (m : ℤ) → refusal (shown_tests xs ys marks es m) ≡ 0 → Passed xs ys marks es m
passed xs ys marks es m e =
    let t = all_hold (shown_tests xs ys marks es m) refl e in
    let f = t.1.1.1 in
    let wide = reached m xs f.1.1.0 in
    let high = reached m ys f.1.1.1.0 in
    let some = times-some m f.0 in
    record {
      admitted = record {
        few = leb-true (length xs) most_points t.0;
        ys_length = eqb-true (length ys) (length xs) t.1.0;
        marks_length = eqb-true (length marks) (length xs) t.1.1.0;
        wide = λ i. omega (arith, wide i, mul-le-mul_right (nat_abs (at xs i)) some);
        high = λ i. omega (arith, high i, mul-le-mul_right (nat_abs (at ys i)) some);
      };
      ends = f.1.0;
      some = above-none m f.0;
      field = record { some = some; most = times-most m f.0; wide = wide; high = high };
    }
