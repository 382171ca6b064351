-- The width rule: what its list test and its nearest standard are as facts, how a loop finds them, and what a fitted width is to the width.
use mathlib.Core.Path.{◌≡◌, refl, sym, ap, subst, ◌∙◌}
use mathlib.Core.Bool.{Bool, true, false, cond, ◌&&◌, ◌||◌, and-false}
use mathlib.Core.List.{List, [], ◌∷◌}
use mathlib.Core.Logic.{⊎_elim}
use Prim.Native.Nat.{ℕ, zero, suc, ◌+◌, ◌-◌, ◌≤◌, ◌<◌, max}
use native.Mathlib.Nat.{le_of_suc-le-suc}
use native.Mathlib.Numerals.{add-one}
use native.Mathlib.Omega.{arith}
use lib.Dec.{T, ltb, leb, eqb}
use borrow.Author.Tests.{ltb-true, ltb-false, leb-true, eqb-true, lt-ltb, le-ltb, le-leb, lt-leb, eq-eqb, ne_eqb}
use lib.ListN.{length, get_or, drop, drop_of_length-le}
use lib.Seq.{drop-cons}
use lib.IntN.{ℤ, pos, negsuc, neg_ℤ, nat_abs, ◌-ℤ◌}
use lib.Signed.{lt_z, le_z, ◌≤ℤ◌, ◌<ℤ◌}
use Rattle.signed.specs.Parts.{up, dn}
use Rattle.signed.proofs.Signed.{
  signed,
  ◌also◌,
  nat_abs-is,
  one-zero,
  sub-law,
  up_neg,
  dn-neg,
  is-≤ℤ,
  is-<ℤ,
  to-≤ℤ,
  to-≡,
  to-lt-true,
  to-lt-false,
  to-le-true,
  to-le-false,
  lt-or-le,
}
use Rattle.fixed.specs.Width.{most_standards, most_standard, most_away, one_pixel, rises_from, standards_hold, rule_holds, Standards}
use Rattle.fixed.specs.Width.{away, no_better, is_nearest, standard_that, nearest, Nearest, with_sign, settled, snapped, lifted, fitted_width, Fitted}
use Rattle.fixed.specs.declared.width.WidthRule.{WidthRule}
use Rattle.fixed.specs.declared.width.WidthRule.TheVariants.{Keep, Snap}

-- ---- tests joined
never : {A : Type 0} → false ≡ true → A
never e = absurd (subst T (sym e) tt)

and_both : (a b : Bool) → (a && b) ≡ true → (a ≡ true) × (b ≡ true)
and_both true b e = (refl, e)
and_both false b e = never e

and-of : (a b : Bool) → a ≡ true → b ≡ true → (a && b) ≡ true
and-of true b e f = f
and-of false b e f = never e

abbrev at : List ℤ → ℕ → ℤ
at xs i = get_or xs i (pos 0)

-- ---- the list's own rule, as facts
record Rises (b x : ℤ) (xs : List ℤ) : Type 0 where
  above : b <ℤ x
  most : x ≤ℤ pos most_standard
  rest : rises_from x xs ≡ true

rises-cons : (b x : ℤ) (xs : List ℤ) → rises_from b (x ∷ xs) ≡ true → Rises b x xs
unfolding rises_from
rises-cons b x xs e =
    let l = and_both (lt_z b x) (le_z x (pos most_standard) && rises_from x xs) e in
    let k = and_both (le_z x (pos most_standard)) (rises_from x xs) l.1 in
    record { above = is-<ℤ b x l.0; most = is-≤ℤ x (pos most_standard) k.0; rest = k.1 }

rises-above : (b : ℤ) (xs : List ℤ) → rises_from b xs ≡ true → (i : ℕ) → i < length xs → b <ℤ at xs i
rises-above b [] e i h = absurd (omega arith)
rises-above b (x ∷ xs) e zero h = (rises-cons b x xs e).above
rises-above b (x ∷ xs) e (suc i) h =
    let r = rises-cons b x xs e in
    let k = rises-above x xs r.rest i (le_of_suc-le-suc h) in
    omega (arith, signed)

rises-most : (b : ℤ) (xs : List ℤ) → rises_from b xs ≡ true → (i : ℕ) → i < length xs → at xs i ≤ℤ pos most_standard
rises-most b [] e i h = absurd (omega arith)
rises-most b (x ∷ xs) e zero h = (rises-cons b x xs e).most
rises-most b (x ∷ xs) e (suc i) h = rises-most x xs (rises-cons b x xs e).rest i (le_of_suc-le-suc h)

rises-pairs : (b : ℤ) (xs : List ℤ) → rises_from b xs ≡ true → (i j : ℕ) → i < j → j < length xs → at xs i <ℤ at xs j
rises-pairs b [] e i j l h = absurd (omega arith)
rises-pairs b (x ∷ xs) e i zero l h = absurd (omega arith)
rises-pairs b (x ∷ xs) e zero (suc j) l h = rises-above x xs (rises-cons b x xs e).rest j (le_of_suc-le-suc h)
rises-pairs b (x ∷ xs) e (suc i) (suc j) l h = rises-pairs x xs (rises-cons b x xs e).rest i j (le_of_suc-le-suc l) (le_of_suc-le-suc h)

-- a list that passes the test keeps the rule
pub holds-is : (xs : List ℤ) → standards_hold xs ≡ true → Standards xs
unfolding standards_hold
holds-is xs e =
    let l = and_both (leb (length xs) most_standards) (rises_from (pos 0) xs) e in
    record {
      few = leb-true (length xs) most_standards l.0;
      least = λ i h. let k = rises-above (pos 0) xs l.1 i h in omega (arith, signed);
      most = rises-most (pos 0) xs l.1;
      rising = rises-pairs (pos 0) xs l.1;
    }

rises-from :
    (b : ℤ) (xs : List ℤ) → ((i : ℕ) → i < length xs → b <ℤ at xs i) → ((i : ℕ) → i < length xs → at xs i ≤ℤ pos most_standard)
    → ((i j : ℕ) → i < j → j < length xs → at xs i <ℤ at xs j) → rises_from b xs ≡ true
unfolding rises_from
rises-from b [] l m r = refl
rises-from b (x ∷ xs) l m r =
    let p = l 0 (omega arith) in
    let q = m 0 (omega arith) in
    and-of (lt_z b x) (le_z x (pos most_standard) && rises_from x xs) (to-lt-true b x (omega (arith, signed)))
    (and-of (le_z x (pos most_standard)) (rises_from x xs) (to-le-true x (pos most_standard) (omega (arith, signed)))
    (rises-from x xs (λ i h. r 0 (suc i) (omega arith) (omega (arith, h))) (λ i h. m (suc i) (omega (arith, h)))
    (λ i j h k. r (suc i) (suc j) (omega (arith, h)) (omega (arith, k)))))

-- and one that keeps the rule passes the test
pub is-holds : (xs : List ℤ) → Standards xs → standards_hold xs ≡ true
unfolding standards_hold
is-holds xs s =
    and-of (leb (length xs) most_standards) (rises_from (pos 0) xs) (le-leb (length xs) most_standards s.few)
    (rises-from (pos 0) xs (λ i h. let k = s.least i h in omega (arith, signed)) s.most s.rising)

-- ---- the test, standard by standard
pub holds-long : (xs : List ℤ) → most_standards < length xs → standards_hold xs ≡ false
unfolding standards_hold
holds-long xs h = rw (lt-leb (length xs) most_standards h)

pub holds-start : (xs : List ℤ) → length xs ≤ most_standards → standards_hold xs ≡ rises_from (pos 0) xs
unfolding standards_hold
holds-start xs h = rw (le-leb (length xs) most_standards h)

module _ (b : ℤ) (xs : List ℤ) (i : ℕ) (inside : i < length xs) where
  step : rises_from b (drop i xs) ≡ (lt_z b (at xs i) && (le_z (at xs i) (pos most_standard) && rises_from (at xs i) (drop (i + 1) xs)))
  unfolding rises_from
  step = rw (add-one, drop-cons xs i (pos 0) inside)

  pub rises-not-above : up (at xs i) + dn b ≤ up b + dn (at xs i) → rises_from b (drop i xs) ≡ false
  rises-not-above h = rw (step, to-lt-false b (at xs i) h)

  pub rises-too-large : most_standard + dn (at xs i) < up (at xs i) → rises_from b (drop i xs) ≡ false
  rises-too-large h = rw (step, to-le-false (at xs i) (pos most_standard) (omega arith), and-false)

  pub rises-on : up b + dn (at xs i) < up (at xs i) + dn b → up (at xs i) ≤ most_standard + dn (at xs i)
      → rises_from b (drop i xs) ≡ rises_from (at xs i) (drop (i + 1) xs)
  rises-on h l = rw (step, to-lt-true b (at xs i) h, to-le-true (at xs i) (pos most_standard) (omega arith))

pub rises-end : (b : ℤ) (xs : List ℤ) (i : ℕ) → length xs ≤ i → rises_from b (drop i xs) ≡ true
unfolding rises_from
rises-end b xs i h = rw (drop_of_length-le xs {i = i} h)

-- ---- the nearest of the first n standards, by its place
pub record NearestOf (n : ℕ) (xs : List ℤ) (m place : ℕ) : Type 0 where
  pub inside : place < n
  pub none_nearer : (i : ℕ) → i < n → away m (at xs place) ≤ away m (at xs i)
  pub smaller_on_a_tie : (i : ℕ) → i < n → away m (at xs place) ≡ away m (at xs i) → at xs place ≤ℤ at xs i

pub nearest-first : (xs : List ℤ) (m : ℕ) → NearestOf 1 xs m 0
nearest-first xs m = record {
  inside = omega arith;
  none_nearer = λ i h. by i h;
  smaller_on_a_tie = λ i h e. by_tie i h;
}
  where
    by : (i : ℕ) → i < 1 → away m (at xs 0) ≤ away m (at xs i)
    by zero h = omega arith
    by (suc i) h = absurd (omega arith)

    by_tie : (i : ℕ) → i < 1 → at xs 0 ≤ℤ at xs i
    by_tie zero h = to-≤ℤ (at xs 0) (at xs 0) (omega arith)
    by_tie (suc i) h = absurd (omega arith)

is_last : (i k : ℕ) → k < i + 1 → i ≤ k → i ≡ k
is_last i k h b = omega arith

-- one standard more, nearer than the nearest before it
pub nearest-new : (i : ℕ) (xs : List ℤ) (m place : ℕ) → NearestOf i xs m place → away m (at xs i) < away m (at xs place) → NearestOf (i + 1) xs m i
nearest-new i xs m place n l = record {
  inside = omega arith;
  none_nearer =
      λ k h. ⊎_elim (λ b. omega (arith, n.none_nearer k b)) (λ b. subst (λ (j : ℕ). away m (at xs i) ≤ away m (at xs j)) (is_last i k h b) (omega arith))
      (lt-or-le k i);
  smaller_on_a_tie =
      λ k h e. ⊎_elim (λ b. absurd (omega (arith, n.none_nearer k b)))
      (λ b. subst (λ (j : ℕ). at xs i ≤ℤ at xs j) (is_last i k h b) (to-≤ℤ (at xs i) (at xs i) (omega arith))) (lt-or-le k i);
}

-- one standard more, no nearer: it is larger, since the list rises
pub nearest-old : (i : ℕ) (xs : List ℤ) (m place : ℕ) → Standards xs → i < length xs → NearestOf i xs m place → away m (at xs place) ≤ away m (at xs i)
    → NearestOf (i + 1) xs m place
nearest-old i xs m place s h n l = record {
  inside = omega (arith, n.inside);
  none_nearer = λ k b. ⊎_elim (n.none_nearer k) (λ a. subst (λ (j : ℕ). away m (at xs place) ≤ away m (at xs j)) (is_last i k b a) l) (lt-or-le k i);
  smaller_on_a_tie = λ k b e. ⊎_elim (λ a. n.smaller_on_a_tie k a e) (λ a. subst (λ (j : ℕ). at xs place ≤ℤ at xs j) (is_last i k b a) larger) (lt-or-le k i);
}
  where
    larger : at xs place ≤ℤ at xs i
    larger = let r = s.rising place i n.inside h in omega (arith, signed)

-- the nearest of all
pub nearest-all : (xs : List ℤ) (m n place : ℕ) → length xs ≤ n → n ≤ length xs → NearestOf n xs m place → Nearest xs m (at xs place)
nearest-all xs m n place l k s = record {
  place = place;
  inside = omega (arith, s.inside);
  there = refl;
  none_nearer = λ i h. s.none_nearer i (omega (arith, h));
  smaller_on_a_tie = λ i h e. s.smaller_on_a_tie i (omega (arith, h)) e;
}

-- ---- `nearest` is the nearest, and nothing else is
no-better-of : (m : ℕ) (s t : ℤ) → away m s ≤ away m t → (away m s ≡ away m t → s ≤ℤ t) → no_better m s t ≡ true
unfolding no_better
no-better-of m s t l k = ⊎_elim nearer equally (lt-or-le (away m s) (away m t))
  where
    nearer : away m s < away m t → (ltb (away m s) (away m t) || (eqb (away m s) (away m t) && le_z s t)) ≡ true
    nearer h = rw (lt-ltb (away m s) (away m t) h)

    equally : away m t ≤ away m s → (ltb (away m s) (away m t) || (eqb (away m s) (away m t) && le_z s t)) ≡ true
    equally h =
        let e : away m s ≡ away m t = omega arith in
        let o = k e in
        rw (le-ltb (away m s) (away m t) h, eq-eqb (away m s) (away m t) e, to-le-true s t (omega (arith, signed)))

record NoBetter (m : ℕ) (s t : ℤ) : Type 0 where
  none_nearer : away m s ≤ away m t
  smaller_on_a_tie : away m s ≡ away m t → s ≤ℤ t

no-better-is : (m : ℕ) (s t : ℤ) → no_better m s t ≡ true → NoBetter m s t
unfolding no_better
no-better-is m s t e = by (ltb (away m s) (away m t)) refl e
  where
    by : (b : Bool) → ltb (away m s) (away m t) ≡ b → (b || (eqb (away m s) (away m t) && le_z s t)) ≡ true → NoBetter m s t
    by true l e = let h = ltb-true (away m s) (away m t) l in record { none_nearer = omega arith; smaller_on_a_tie = λ q. absurd (omega arith) }
    by false l e =
        let h = and_both (eqb (away m s) (away m t)) (le_z s t) e in
        let q = eqb-true (away m s) (away m t) h.0 in
        record { none_nearer = omega arith; smaller_on_a_tie = λ _. is-≤ℤ s t h.1 }

is-nearest-of : (m : ℕ) (s : ℤ) (ts : List ℤ) → ((i : ℕ) → i < length ts → no_better m s (at ts i) ≡ true) → is_nearest m ts s ≡ true
unfolding is_nearest
is-nearest-of m s [] h = refl
is-nearest-of m s (t ∷ ts) h = and-of (no_better m s t) (is_nearest m ts s) (h 0 (omega arith)) (is-nearest-of m s ts (λ i l. h (suc i) (omega (arith, l))))

is-nearest-at : (m : ℕ) (s : ℤ) (ts : List ℤ) → is_nearest m ts s ≡ true → (i : ℕ) → i < length ts → no_better m s (at ts i) ≡ true
unfolding is_nearest
is-nearest-at m s [] e i h = absurd (omega arith)
is-nearest-at m s (t ∷ ts) e zero h = (and_both (no_better m s t) (is_nearest m ts s) e).0
is-nearest-at m s (t ∷ ts) e (suc i) h = is-nearest-at m s ts (and_both (no_better m s t) (is_nearest m ts s) e).1 i (le_of_suc-le-suc h)

-- a standard of the list that passes a test
record Passes (p : ℤ → Bool) (xs : List ℤ) (s : ℤ) : Type 0 where
  place : ℕ
  inside : place < length xs
  there : at xs place ≡ s
  passes : p s ≡ true

standard-that : (p : ℤ → Bool) (xs : List ℤ) (s : ℤ) → Passes p xs s → Passes p xs (standard_that p xs)
unfolding standard_that
standard-that p [] s h = absurd (omega (arith, h.inside))
standard-that p (x ∷ xs) s h = by (standard-that p xs s) (p x) refl h.place h.inside h.there
  where
    by : (Passes p xs s → Passes p xs (standard_that p xs)) → (b : Bool) → p x ≡ b → (i : ℕ) → i < length (x ∷ xs) → at (x ∷ xs) i ≡ s
        → Passes p (x ∷ xs) (cond b x (standard_that p xs))
    by again true e i l q = record { place = 0; inside = omega arith; there = refl; passes = e }
    by again false e zero l q = never (sym e ∙ ap p q ∙ h.passes)
    by again false e (suc i) l q =
        let r = again (record { place = i; inside = le_of_suc-le-suc l; there = q; passes = h.passes }) in
        record { place = suc r.place; inside = omega (arith, r.inside); there = r.there; passes = r.passes }

-- two nearest standards coincide
pub nearest-only : (xs : List ℤ) (m : ℕ) (s t : ℤ) → Nearest xs m s → Nearest xs m t → s ≡ t
nearest-only xs m s t p q =
    let a : away m s ≤ away m t = subst (λ (z : ℤ). away m s ≤ away m z) q.there (p.none_nearer q.place q.inside) in
    let b : away m t ≤ away m s = subst (λ (z : ℤ). away m t ≤ away m z) p.there (q.none_nearer p.place p.inside) in
    let c : s ≤ℤ t = subst (λ (z : ℤ). away m s ≡ away m z → s ≤ℤ z) q.there (p.smaller_on_a_tie q.place q.inside) (omega arith) in
    let d : t ≤ℤ s = subst (λ (z : ℤ). away m t ≡ away m z → t ≤ℤ z) p.there (q.smaller_on_a_tie p.place p.inside) (omega arith) in
    to-≡ s t (omega (arith, signed))

-- where there is a nearest standard, `nearest` is it
pub nearest-found : (xs : List ℤ) (m : ℕ) (s : ℤ) → Nearest xs m s → nearest m xs ≡ s
unfolding nearest
nearest-found xs m s n = nearest-only xs m t s nearest-t n
  where
    t : ℤ
    t = standard_that (is_nearest m xs) xs

    found : Passes (is_nearest m xs) xs t
    found = standard-that (is_nearest m xs) xs s (record {
      place = n.place;
      inside = n.inside;
      there = n.there;
      passes = is-nearest-of m s xs (λ i h. no-better-of m s (at xs i) (n.none_nearer i h) (n.smaller_on_a_tie i h));
    })

    no-better : (i : ℕ) → i < length xs → NoBetter m t (at xs i)
    no-better i h = no-better-is m t (at xs i) (is-nearest-at m t xs found.passes i h)

    nearest-t : Nearest xs m t
    nearest-t = record {
      place = found.place;
      inside = found.inside;
      there = found.there;
      none_nearer = λ i h. (no-better i h).none_nearer;
      smaller_on_a_tie = λ i h. (no-better i h).smaller_on_a_tie;
    }

-- and there is one in every list of standards that is not empty
record Some (n : ℕ) (xs : List ℤ) (m : ℕ) : Type 0 where
  place : ℕ
  nearest_of : NearestOf n xs m place

one_more : (n : ℕ) (xs : List ℤ) (m : ℕ) → Standards xs → n < length xs → Some n xs m → Some (n + 1) xs m
one_more n xs m s l f =
    ⊎_elim (λ k. record { place = n; nearest_of = nearest-new n xs m f.place f.nearest_of k })
    (λ k. record { place = f.place; nearest_of = nearest-old n xs m f.place s l f.nearest_of k })
    (lt-or-le (away m (at xs n)) (away m (at xs f.place)))

some_of : (n : ℕ) (xs : List ℤ) (m : ℕ) → Standards xs → n < length xs → Some (n + 1) xs m
some_of zero xs m s l = record { place = 0; nearest_of = nearest-first xs m }
some_of (suc n) xs m s l =
    one_more (suc n) xs m s l (subst (λ (k : ℕ). Some k xs m) (add-one n) (some_of n xs m s (omega arith)))

pub nearest-is : (xs : List ℤ) (m : ℕ) → Standards xs → 0 < length xs → Nearest xs m (nearest m xs)
nearest-is xs m s h =
    let f = some_of (length xs - 1) xs m s (omega arith) in
    let n = nearest-all xs m (length xs - 1 + 1) f.place (omega arith) (omega arith) f.nearest_of in
    subst (Nearest xs m) (sym (nearest-found xs m (at xs f.place) n)) n

-- ---- a width settles
pub snapped-empty : (xs : List ℤ) (w : ℤ) → length xs ≡ 0 → snapped xs w ≡ w
unfolding snapped
snapped-empty [] w e = refl
snapped-empty (x ∷ xs) w e = absurd (omega arith)

pub snapped-some : (xs : List ℤ) (w : ℤ) → (length xs ≡ 0 → ⊥) → snapped xs w ≡ settled w (nearest (nat_abs w) xs)
unfolding snapped
snapped-some [] w h = absurd (h refl)
snapped-some (x ∷ xs) w h = refl

pub settled-zero : (w s : ℤ) → nat_abs w ≡ 0 → settled w s ≡ w
unfolding settled
settled-zero w s e = rw (eq-eqb (nat_abs w) 0 e)

pub settled-far : (w s : ℤ) → (nat_abs w ≡ 0 → ⊥) → most_away < away (nat_abs w) s → settled w s ≡ w
unfolding settled
settled-far w s h l = rw (ne_eqb (nat_abs w) 0 h, lt-leb (away (nat_abs w) s) most_away l)

settled-near : (w s : ℤ) → (nat_abs w ≡ 0 → ⊥) → away (nat_abs w) s ≤ most_away → settled w s ≡ with_sign w s
unfolding settled
settled-near w s h l = rw (ne_eqb (nat_abs w) 0 h, le-leb (away (nat_abs w) s) most_away l)

pub settled-pos : (w s : ℤ) → (nat_abs w ≡ 0 → ⊥) → away (nat_abs w) s ≤ most_away → dn w ≤ up w → settled w s ≡ s
unfolding with_sign
settled-pos (pos n) s h l k = settled-near (pos n) s h l
settled-pos (negsuc n) s h l k = absurd (omega arith)

pub settled-neg : (w s : ℤ) → (nat_abs w ≡ 0 → ⊥) → away (nat_abs w) s ≤ most_away → up w < dn w → settled w s ≡ neg_ℤ s
unfolding with_sign
settled-neg (pos n) s h l k = absurd (omega arith)
settled-neg (negsuc n) s h l k = settled-near (negsuc n) s h l

positive : (n : ℕ) → eqb n 0 ≡ false → 0 < n
positive zero e = never (sym e)
positive (suc n) e = omega arith

-- ---- a width is lifted
pub lifted-zero : (w : ℤ) → nat_abs w ≡ 0 → lifted w ≡ w
unfolding lifted
lifted-zero w e = rw (eq-eqb (nat_abs w) 0 e)

pub lifted-wide : (w : ℤ) → one_pixel ≤ nat_abs w → lifted w ≡ w
unfolding lifted
lifted-wide w h = rw (ne_eqb (nat_abs w) 0 (λ e. omega arith), le-ltb (nat_abs w) one_pixel h)

lifted-thin : (w : ℤ) → 0 < nat_abs w → nat_abs w < one_pixel → lifted w ≡ with_sign w (pos one_pixel)
unfolding lifted
lifted-thin w p h = rw (ne_eqb (nat_abs w) 0 (λ e. omega arith), lt-ltb (nat_abs w) one_pixel h)

pub lifted-pos : (w : ℤ) → dn w < up w → up w < one_pixel → lifted w ≡ pos one_pixel
unfolding with_sign
lifted-pos (pos n) p h = lifted-thin (pos n) p h
lifted-pos (negsuc n) p h = absurd (omega arith)

pub lifted-neg : (w : ℤ) → up w < dn w → dn w < one_pixel → lifted w ≡ neg_ℤ (pos one_pixel)
unfolding with_sign
lifted-neg (pos n) p h = absurd (omega arith)
lifted-neg (negsuc n) p h = lifted-thin (negsuc n) (omega arith) h

-- ---- a number with another's sign
nat_abs-neg : (s : ℤ) → nat_abs (neg_ℤ s) ≡ nat_abs s
nat_abs-neg s = omega (arith, nat_abs-is s, nat_abs-is (neg_ℤ s), up_neg s, dn-neg s)

nat_abs-signed : (w s : ℤ) → nat_abs (with_sign w s) ≡ nat_abs s
unfolding with_sign
nat_abs-signed (pos n) s = refl
nat_abs-signed (negsuc n) s = nat_abs-neg s

-- ---- what a fitted width is to the width
-- a width snapped has the width's sign, and a magnitude at most 16 from the width's
record Snapped (w r : ℤ) : Type 0 where
  size : ℕ
  signed : r ≡ with_sign w (pos size)
  zero : nat_abs w ≡ 0 → size ≡ 0
  nonzero : 0 < nat_abs w → 0 < size
  not_above : size ≤ nat_abs w + most_away
  not_below : nat_abs w ≤ size + most_away

own_sign : (w : ℤ) → w ≡ with_sign w (pos (nat_abs w))
unfolding with_sign
own_sign (pos n) = refl
own_sign (negsuc n) = refl

snapped-itself : (w : ℤ) → Snapped w w
snapped-itself w = record {
  size = nat_abs w;
  signed = own_sign w;
  zero = λ e. e;
  nonzero = λ h. h;
  not_above = omega arith;
  not_below = omega arith;
}

-- a standard that is near
settled-by : (w s : ℤ) → pos 1 ≤ℤ s → 0 < nat_abs w → away (nat_abs w) s ≤ most_away → Snapped w (with_sign w s)
settled-by w (pos k) p n l =
    let z = nat_abs-is (pos k -ℤ pos (nat_abs w)) also sub-law (pos k) (pos (nat_abs w)) in
    record {
      size = k;
      signed = refl;
      zero = λ e. absurd (omega (arith, e));
      nonzero = λ h. omega (arith, signed);
      not_above = omega arith;
      not_below = omega arith;
    }
settled-by w (negsuc k) p n l = absurd (omega (arith, signed))

settled_is : (w s : ℤ) → pos 1 ≤ℤ s → Snapped w (settled w s)
unfolding settled
settled_is w s p = by (eqb (nat_abs w) 0) refl (leb (away (nat_abs w) s) most_away) refl
  where
    by : (a : Bool) → eqb (nat_abs w) 0 ≡ a → (b : Bool) → leb (away (nat_abs w) s) most_away ≡ b → Snapped w (cond a w (cond b (with_sign w s) w))
    by true d b e = snapped-itself w
    by false d false e = snapped-itself w
    by false d true e = settled-by w s p (positive (nat_abs w) d) (leb-true (away (nat_abs w) s) most_away e)

snapped-is : (xs : List ℤ) (w : ℤ) → Standards xs → Snapped w (snapped xs w)
unfolding snapped
snapped-is [] w s = snapped-itself w
snapped-is (x ∷ xs) w s =
    let n = nearest-is (x ∷ xs) (nat_abs w) s (omega arith) in
    settled_is w (nearest (nat_abs w) (x ∷ xs)) (subst (λ (z : ℤ). pos 1 ≤ℤ z) n.there (s.least n.place n.inside))

-- a magnitude lifted
abbrev lifted_size : ℕ → ℕ
lifted_size n = cond (eqb n 0) n (cond (ltb n one_pixel) one_pixel n)

record LiftedSize (n m : ℕ) : Type 0 where
  zero : n ≡ 0 → m ≡ 0
  nonzero : 0 < n → one_pixel ≤ m
  most : m ≤ max one_pixel n
  least : n ≤ m

lifted-size : (n : ℕ) → LiftedSize n (lifted_size n)
lifted-size n = by (eqb n 0) refl (ltb n one_pixel) refl
  where
    by : (a : Bool) → eqb n 0 ≡ a → (b : Bool) → ltb n one_pixel ≡ b → LiftedSize n (cond a n (cond b one_pixel n))
    by true d b e = let z = eqb-true n 0 d in record { zero = λ e. e; nonzero = λ h. absurd (omega (arith, h)); most = omega arith; least = omega arith }
    by false d false e =
        let p = positive n d in
        let h = ltb-false n one_pixel e in
        record { zero = λ e. e; nonzero = λ _. h; most = omega arith; least = omega arith }
    by false d true e =
        let p = positive n d in
        let h = ltb-true n one_pixel e in
        record { zero = λ e. absurd (omega (arith, e)); nonzero = λ _. omega arith; most = omega arith; least = omega arith }

-- a magnitude with a sign is lifted by its magnitude
lifted-signed : (w : ℤ) (n : ℕ) → (nat_abs w ≡ 0 → n ≡ 0) → lifted (with_sign w (pos n)) ≡ with_sign w (pos (lifted_size n))
unfolding lifted with_sign
lifted-signed (pos k) n z = by (eqb n 0) (ltb n one_pixel)
  where
    by : (a b : Bool) → cond a (pos n) (cond b (pos one_pixel) (pos n)) ≡ pos (cond a n (cond b one_pixel n))
    by true b = refl
    by false true = refl
    by false false = refl
lifted-signed (negsuc k) zero z = refl
lifted-signed (negsuc k) (suc n) z = by (eqb (suc n) 0) (ltb (suc n) one_pixel)
  where
    by : (a b : Bool) → cond a (negsuc n) (cond b (negsuc 63) (negsuc n)) ≡ neg_ℤ (pos (cond a (suc n) (cond b one_pixel (suc n))))
    by true b = refl
    by false true = refl
    by false false = refl

lifted-fitted : (w r : ℤ) → Snapped w r → Fitted w (lifted r)
lifted-fitted w r s =
    let l = lifted-size s.size in
    record {
      size = lifted_size s.size;
      signed = ap lifted s.signed ∙ lifted-signed w s.size s.zero;
      zero = λ e. l.zero (s.zero e);
      nonzero = λ h. omega (arith, l.nonzero (s.nonzero h));
      most = omega (arith, l.most, s.not_above);
      not_above = not_above (nat_abs w) refl;
      not_below = omega (arith, l.least, s.not_below);
    }
  where
    not_above : (n : ℕ) → nat_abs w ≡ n → lifted_size s.size < nat_abs w + one_pixel
    not_above zero e = omega (arith, e, (lifted-size s.size).zero (s.zero e))
    not_above (suc n) e = omega (arith, e, (lifted-size s.size).most, s.not_above)

fitted-itself : (w : ℤ) → Fitted w w
fitted-itself w = record {
  size = nat_abs w;
  signed = own_sign w;
  zero = λ e. e;
  nonzero = λ h. h;
  most = omega arith;
  not_above = omega arith;
  not_below = omega arith;
}

-- with every list that keeps its rule
pub fitted-is : (rule : WidthRule) (xs : List ℤ) (w : ℤ) → rule_holds rule xs ≡ true → Fitted w (fitted_width rule xs w)
unfolding fitted_width rule_holds
fitted-is Keep xs w h = fitted-itself w
fitted-is Snap xs w h = lifted-fitted w (snapped xs w) (snapped-is xs w (holds-is xs h))

-- Snap leaves no width but 0 thinner than a pixel
pub not-thinner : (xs : List ℤ) (w : ℤ) → standards_hold xs ≡ true → 0 < nat_abs w → one_pixel ≤ nat_abs (fitted_width Snap xs w)
unfolding fitted_width
not-thinner xs w h p =
    let s = snapped-is xs w (holds-is xs h) in
    let l = (lifted-size s.size).nonzero (s.nonzero p) in
    rw (s.signed, lifted-signed w s.size s.zero, nat_abs-signed w (pos (lifted_size s.size))) l

-- ---- how large a fitted width is at the most, whatever the list
settled-most : (w s : ℤ) → nat_abs (settled w s) ≤ nat_abs w + most_away
unfolding settled
settled-most w s = by (eqb (nat_abs w) 0) (leb (away (nat_abs w) s) most_away) refl
  where
    by : (a b : Bool) → leb (away (nat_abs w) s) most_away ≡ b → nat_abs (cond a w (cond b (with_sign w s) w)) ≤ nat_abs w + most_away
    by true b e = omega arith
    by false false e = omega arith
    by false true e =
        let l = leb-true (away (nat_abs w) s) most_away e in
        omega (arith, nat_abs-signed w s, nat_abs-is (s -ℤ pos (nat_abs w)), sub-law s (pos (nat_abs w)), nat_abs-is s, one-zero s)

snapped-most : (xs : List ℤ) (w : ℤ) → nat_abs (snapped xs w) ≤ nat_abs w + most_away
unfolding snapped
snapped-most [] w = omega arith
snapped-most (x ∷ xs) w = settled-most w (nearest (nat_abs w) (x ∷ xs))

lifted-most : (w : ℤ) → nat_abs (lifted w) ≤ max one_pixel (nat_abs w)
unfolding lifted
lifted-most w = by (eqb (nat_abs w) 0) (ltb (nat_abs w) one_pixel)
  where
    by : (a b : Bool) → nat_abs (cond a w (cond b (with_sign w (pos one_pixel)) w)) ≤ max one_pixel (nat_abs w)
    by true b = omega arith
    by false true = omega (arith, nat_abs-signed w (pos one_pixel))
    by false false = omega arith

pub fitted-most : (rule : WidthRule) (xs : List ℤ) (w : ℤ) → nat_abs (fitted_width rule xs w) ≤ max one_pixel (nat_abs w + most_away)
unfolding fitted_width
fitted-most Keep xs w = omega arith
fitted-most Snap xs w = omega (arith, lifted-most (snapped xs w), snapped-most xs w)
