-- The search for a point that is too steep: what each step tells.
use mathlib.Core.Path.{◌≡◌, refl, sym, ◌∙◌}
use mathlib.Core.Bool.{Bool, true, false, not, ◌&&◌}
use mathlib.Core.List.{List}
use mathlib.Core.Logic.{⊎_elim}
use mathlib.Core.Option.{some, none}
use Prim.Native.Nat.{ℕ, ◌+◌, ◌*◌, ◌≤◌, ◌<◌}
use native.Mathlib.Decide.{dec_lt, ℕ_discrete}
use native.Mathlib.Omega.{arith}
use borrow.Author.Tests.{le-leb, lt-leb}
use lib.Dec.{leb, ltb}
use lib.ListN.{length, get_or}
use lib.IntN.{ℤ, pos, negsuc, nat_abs, ◌-ℤ◌}
use lib.Signed.{lt_z, le_z}
use Rattle.signed.specs.Parts.{up, dn}
use Rattle.signed.proofs.Signed.{nat_abs-is, one-zero, sub-law, signed, lt-or-le, to-lt-true, to-lt-false}
use Rattle.fixed.specs.Divide.{too_steep}
use Rattle.fixed.proofs.Interpolation.{steep-is, is-steep}
use Rattle.weak_contour.specs.Contour.{at, Contour, refs, references, steep_between, steep_by, steep_followed, steep_at}
use Rattle.weak_contour.specs.Steps.{Coordinate, whole, Next, Clear, Somewhere, Tells, is_between, between_originals, steep_for}
use Rattle.weak_contour.proofs.References.{refs-gap, refs-behind, refs-front, refs-none}
use Rattle.weak_contour.proofs.Searches.{is-touched, not-touched}

-- ---- Bools
and_no : (x : Bool) → (x && false) ≡ false
and_no true = refl
and_no false = refl

pub not_yes : (x : Bool) → (x ≡ true → ⊥) → x ≡ false
not_yes true h = absurd (h refl)
not_yes false h = refl

never : {A : Type 0} → true ≡ false → A
never e = absurd (let n : ◌≡◌ {A = ℕ} 0 1 = cc in omega arith)

-- ---- the test without a division
steep-span : (c s : ℤ) → dn s < up s → up s < dn s + 131072 → too_steep c s ≡ true → 32768 * nat_abs s ≤ nat_abs c
steep-span c (pos s) h k e = steep-is c s (omega arith) (omega arith) e
steep-span c (negsuc s) h k e = absurd (omega arith)

span-steep : (c s : ℤ) → dn s < up s → up s < dn s + 131072 → 32768 * nat_abs s ≤ nat_abs c → too_steep c s ≡ true
span-steep c (pos s) h k e = is-steep c s (omega arith) (omega arith) e
span-steep c (negsuc s) h k e = absurd (omega arith)

pub steep-test : (c s : ℤ) → dn s < up s → up s < dn s + 131072 → leb (nat_abs s * 32768) (nat_abs c) ≡ too_steep c s
steep-test c s h k =
    ⊎_elim (λ l. lt-leb (nat_abs s * 32768) (nat_abs c) l ∙ sym (not_yes (too_steep c s) (λ e. absurd (omega (arith, steep-span c s h k e)))))
    (λ l. le-leb (nat_abs s * 32768) (nat_abs c) l ∙ sym (span-steep c s h k (omega arith))) (lt-or-le (nat_abs c) (nat_abs s * 32768))

-- ---- between
pub between_low : (v v1 v2 : ℤ) → up v + dn v1 ≤ up v1 + dn v → false ≡ is_between v v1 v2
between_low v v1 v2 h = rw (to-lt-false v1 v h)

pub between-rest : (v v1 v2 : ℤ) → up v1 + dn v < up v + dn v1 → lt_z v v2 ≡ is_between v v1 v2
between-rest v v1 v2 h = rw (to-lt-true v1 v h)

-- ---- telling
-- a search that found
pub found : (f : ℕ → Bool) (a b i : ℕ) → a ≤ i → i < b → f i ≡ true → Tells f a b true
found f a b i l h e = record { yes = λ q. record { place = i; low = l; high = h; here = e }; no = λ q. never q }

-- one that did not
pub missed : (f : ℕ → Bool) (a b : ℕ) → ((i : ℕ) → a ≤ i → i < b → f i ≡ false) → Tells f a b false
missed f a b h = record { yes = λ q. never (sym q); no = λ q. h }

-- the same of another name
pub tells_as : (f g : ℕ → Bool) (a b : ℕ) (r : Bool) → ((i : ℕ) → g i ≡ f i) → Tells f a b r → Tells g a b r
tells_as f g a b r e t = record {
  yes = λ q. let s = t.yes q in record { place = s.place; low = s.low; high = s.high; here = e s.place ∙ s.here };
  no = λ q i l h. e i ∙ t.no q i l h;
}

-- ---- a span
module _ (o : List ℤ) (v1 u1 v2 u2 : ℤ) where
  -- nothing lies between equal originals
  pub level-for : v1 ≡ v2 → (i : ℕ) → steep_for o v1 u1 v2 u2 i ≡ false
  unfolding steep_for steep_between
  level-for q i = rw q (by (lt_z v2 (at o i)) (lt_z (at o i) v2) refl refl)
    where
      by : (x y : Bool) → lt_z v2 (at o i) ≡ x → lt_z (at o i) v2 ≡ y → ((x && y) && too_steep (u2 -ℤ u1) (v2 -ℤ v2)) ≡ false
      by true true e f = absurd (omega (arith, signed))
      by true false e f = refl
      by false y e f = refl

  -- where the quotient is not too steep nothing is
  pub gentle-for : too_steep (u2 -ℤ u1) (v2 -ℤ v1) ≡ false → (i : ℕ) → steep_for o v1 u1 v2 u2 i ≡ false
  unfolding steep_for steep_between
  gentle-for e i = rw e (and_no (lt_z v1 (at o i) && lt_z (at o i) v2))

  -- and where it is, what lies between
  pub between-for : too_steep (u2 -ℤ u1) (v2 -ℤ v1) ≡ true → (i : ℕ) → steep_for o v1 u1 v2 u2 i ≡ between_originals o v1 v2 i
  unfolding steep_for steep_between between_originals
  between-for e i = rw e (and-true (lt_z v1 (at o i) && lt_z (at o i) v2))
    where
      and-true : (x : Bool) → (x && true) ≡ x
      and-true true = refl
      and-true false = refl

-- ---- a contour
module _ (o c : List ℤ) (t : List ℕ) where
  -- an untouched point by two references
  steep-equal : (i p q : ℕ) → get_or t i 0 ≡ 0 → references t (whole t) i ≡ some (refs p q) → steep_at o c t (whole t) i ≡ steep_by o c (refs p q) i
  unfolding steep_at steep_followed
  steep-equal i p q z e = rw (not-touched t i z, e)

  -- a touched one
  steep-touched : (i : ℕ) → 0 < get_or t i 0 → steep_at o c t (whole t) i ≡ false
  unfolding steep_at
  steep-touched i m = rw (is-touched t i m)

  -- one without references
  steep-missing : (i : ℕ) → references t (whole t) i ≡ none → steep_at o c t (whole t) i ≡ false
  unfolding steep_at steep_followed
  steep-missing i e = rw e (and_no (not (ltb 0 (get_or t i 0))))

  -- none is touched
  pub walked_none : Next t 0 (length t) → Tells (steep_at o c t (whole t)) 0 (length t) false
  walked_none x = missed _ 0 (length t) (λ i l h. steep-missing i (refs-none t (whole t) i (omega arith) (omega arith) x.clear))

  -- from the first touched point f up to the touched point p no point is too steep
  pub record Walked (f p : ℕ) : Type 0 where
    pub low : f ≤ p
    pub high : p < length t
    pub mark : 0 < get_or t p 0
    pub gentle : (i : ℕ) → f ≤ i → i ≤ p → steep_at o c t (whole t) i ≡ false

  pub walked-first : (f : ℕ) → f < length t → 0 < get_or t f 0 → Walked f f
  walked-first f h m = record { low = omega arith; high = h; mark = m; gentle = λ i a b. let e : i ≡ f = omega arith in rw e (steep-touched f m) }

  -- on to the next one, q
  module _ (f p q : ℕ) (w : Walked f p) (x : Next t (p + 1) q) (h : q < length t) where
    gap-equal : (i : ℕ) → p + 1 ≤ i → i < q → steep_at o c t (whole t) i ≡ steep_by o c (refs p q) i
    gap-equal i a b =
        steep-equal i p q (x.clear i b a)
        (refs-gap t (whole t) i (omega arith) (omega arith) p q (omega arith) (omega arith) b h w.mark (x.here h) (λ j y z. x.clear j y (omega arith)))

    pub walked_next : (r : Bool) → r ≡ false → Tells (steep_by o c (refs p q)) (p + 1) q r → Walked f q
    walked_next r n s = record {
      low = omega (arith, w.low, x.low);
      high = h;
      mark = x.here h;
      gentle = λ i a b. by i a b (dec_lt i (p + 1)) (ℕ_discrete i q);
    }
      where
        by : (i : ℕ) → f ≤ i → i ≤ q → Dec (i < p + 1) → Dec (i ≡ q) → steep_at o c t (whole t) i ≡ false
        by i a b (yes l) d = w.gentle i a (omega arith)
        by i a b (no l) (yes e) = rw e (steep-touched q (x.here h))
        by i a b (no l) (no e) = gap-equal i (omega arith) (omega arith) ∙ s.no n i (omega arith) (omega arith)

    pub gap-found : (r : Bool) → r ≡ true → Tells (steep_by o c (refs p q)) (p + 1) q r → Tells (steep_at o c t (whole t)) 0 (length t) true
    gap-found r y s =
        let k = s.yes y in
        found _ 0 (length t) k.place (omega arith) (omega (arith, k.high, h)) (gap-equal k.place k.low k.high ∙ k.here)

  -- around the seam, from the last, l, to the first, f
  module _ (f l : ℕ) (x0 : Next t 0 f) (w : Walked f l) (x1 : Next t (l + 1) (length t)) where
    mark-f : 0 < get_or t f 0
    mark-f = x0.here (omega (arith, w.low, w.high))

    behind-equal : (i : ℕ) → l + 1 ≤ i → i < length t → steep_at o c t (whole t) i ≡ steep_by o c (refs l f) i
    behind-equal i a b =
        steep-equal i l f (x1.clear i b a)
        (refs-behind t (whole t) i (omega arith) (omega arith) f l (omega arith) w.low w.high mark-f w.mark x0.clear
        (λ j y z. x1.clear j y (omega arith)) (omega arith))

    front-equal : (i : ℕ) → i < f → steep_at o c t (whole t) i ≡ steep_by o c (refs l f) i
    front-equal i b =
        steep-equal i l f (x0.clear i b (omega arith))
        (refs-front t (whole t) i (omega arith) (omega (arith, w.low, w.high)) f l (omega arith) w.low w.high mark-f w.mark x0.clear
        (λ j y z. x1.clear j y (omega arith)) b)

    pub behind-found : (r : Bool) → r ≡ true → Tells (steep_by o c (refs l f)) (l + 1) (length t) r → Tells (steep_at o c t (whole t)) 0 (length t) true
    behind-found r y s = let k = s.yes y in found _ 0 (length t) k.place (omega arith) k.high (behind-equal k.place k.low k.high ∙ k.here)

    -- and all of it
    pub walked_all : (r b : Bool) → b ≡ false → Tells (steep_by o c (refs l f)) (l + 1) (length t) b → Tells (steep_by o c (refs l f)) 0 f r
        → Tells (steep_at o c t (whole t)) 0 (length t) r
    walked_all r b n s u = record {
      yes = λ y. let k = u.yes y in
          record { place = k.place; low = omega arith; high = omega (arith, k.high, w.low, w.high); here = front-equal k.place k.high ∙ k.here };
      no = λ m i a h. by m i h (dec_lt i f) (dec_lt l i);
    }
      where
        by : r ≡ false → (i : ℕ) → i < length t → Dec (i < f) → Dec (l < i) → steep_at o c t (whole t) i ≡ false
        by m i h (yes d) e = front-equal i d ∙ u.no m i (omega arith) d
        by m i h (no d) (yes e) = behind-equal i (omega arith) h ∙ s.no n i (omega arith) h
        by m i h (no d) (no e) = w.gentle i (omega arith) (omega arith)

-- ---- a search that goes on
pub none_more : (f : ℕ → Bool) (a i : ℕ) → ((j : ℕ) → a ≤ j → j < i → f j ≡ false) → f i ≡ false → (j : ℕ) → a ≤ j → j < i + 1 → f j ≡ false
none_more f a i h e j l k = by (ℕ_discrete j i)
  where
    by : Dec (j ≡ i) → f j ≡ false
    by (yes q) = rw q e
    by (no q) = h j l (omega arith)

-- ---- currents less than 65,536 apart make nothing too steep
pub calm-between : (v v1 u1 v2 u2 : ℤ) → Coordinate v1 → Coordinate v2 → nat_abs (u2 -ℤ u1) < 65536 → steep_between v v1 u1 v2 u2 ≡ false
unfolding steep_between
calm-between v v1 u1 v2 u2 a b k = by (lt_z v1 v) (lt_z v v2) refl refl
  where
    by : (x y : Bool) → lt_z v1 v ≡ x → lt_z v v2 ≡ y → ((x && y) && too_steep (u2 -ℤ u1) (v2 -ℤ v1)) ≡ false
    by true true e f =
        let l : up v1 + dn v < up v + dn v1 = omega (arith, signed) in
        let g : up v + dn v2 < up v2 + dn v = omega (arith, signed) in
        let s : dn (v2 -ℤ v1) + 1 < up (v2 -ℤ v1) = omega (arith, sub-law v2 v1) in
        not_yes (too_steep (u2 -ℤ u1) (v2 -ℤ v1))
        (λ t. absurd (omega (
          arith,
          steep-span (u2 -ℤ u1) (v2 -ℤ v1) (omega arith) (omega (arith, a, b, sub-law v2 v1)) t,
          nat_abs-is (v2 -ℤ v1),
          one-zero
              (v2 -ℤ v1),
        )))
    by true false e f = refl
    by false y e f = refl
