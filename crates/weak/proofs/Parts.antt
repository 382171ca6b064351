-- A contour's stretch of the lists: what its points come to there is what they come to in the whole lists. The stretch has n points from s on.
use mathlib.Core.Path.{◌≡◌, refl, sym, ◌∙◌, ap}
use mathlib.Core.Bool.{Bool, true, false}
use mathlib.Core.List.{List}
use mathlib.Core.Logic.{⊎_elim}
use mathlib.Core.Option.{Option, some, none}
use Prim.Native.Nat.{ℕ, zero, suc, ◌+◌, ◌-◌, ◌≤◌, ◌<◌}
use native.Mathlib.Omega.{arith}
use borrow.Author.Tests.{eqb-true, eqb-false, eq-eqb, ne_eqb}
use lib.Dec.{eqb}
use lib.ListN.{get_or, take, drop}
use lib.Seq.{get_or-take, get_or-drop}
use lib.IntN.{ℤ, pos}
use lib.Signed.{lt_z}
use Rattle.weak_contour.specs.Contour.{at, is_touched, first_touched, last_touched, or_else, Contour, touched_before, touched_behind}
use Rattle.weak_contour.specs.Contour.{
  References,
  refs,
  paired,
  references,
  first_of,
  second_of,
  between_at,
  shifted_at,
  followed,
  weak_at,
  steep_by,
  steep_followed,
  steep_at,
}
use Rattle.weak_contour.proofs.Searches.{last_is, first_is, found-by}

-- the stretch of a list
abbrev pub part {ℓ} : {A : Type ℓ} → ℕ → ℕ → List A → List A
part s n l = take n (drop s l)

-- the contour in the whole lists
abbrev pub stretch : ℕ → ℕ → Contour
stretch s n = record { start = s; end = s + n }

-- the contour in its stretch
abbrev pub alone : ℕ → Contour
alone n = record { start = 0; end = n }

-- ---- what is found in a stretch is in it
module _ (t : List ℕ) (n j : ℕ) (inside : j < n) where
  before-inside : (p : ℕ) → touched_before t (alone n) j ≡ some p → p < n
  unfolding touched_before
  before-inside p e =
      ⊎_elim (λ l. omega (arith, (last_is t 0 (j - 0) p l).high)) (λ l. omega (arith, (last_is t 0 (n - 0) p l.1).high))
      (found-by (last_touched t 0 (j - 0)) (last_touched t 0 (n - 0)) p e)

  behind-inside : (p : ℕ) → touched_behind t (alone n) j ≡ some p → p < n
  unfolding touched_behind
  behind-inside p e =
      ⊎_elim (λ l. omega (arith, (first_is t (suc j) (n - suc j) p l).high)) (λ l. omega (arith, (first_is t 0 (n - 0) p l.1).high))
      (found-by (first_touched t (suc j) (n - suc j)) (first_touched t 0 (n - 0)) p e)

  -- so the references are
  refs-inside : (r : References) → references t (alone n) j ≡ some r → (r.before < n) × (r.behind < n)
  unfolding references
  refs-inside r e = by (touched_before t (alone n) j) (touched_behind t (alone n) j) refl refl e
    where
      by : (x y : Option ℕ) → touched_before t (alone n) j ≡ x → touched_behind t (alone n) j ≡ y → paired x y ≡ some r → (r.before < n) × (r.behind < n)
      by none y ex ey q = let z : ◌≡◌ {A = ℕ} 0 1 = cc in absurd (omega arith)
      by (some p) none ex ey q = let z : ◌≡◌ {A = ℕ} 0 1 = cc in absurd (omega arith)
      by (some p) (some u) ex ey q =
          let f : p ≡ r.before = cc in
          let g : u ≡ r.behind = cc in
          (omega (arith, before-inside p ex), omega (arith, behind-inside u ey))

-- ---- the lists
module _ (s n : ℕ) where
  -- a coordinate of the stretch
  at_part : (l : List ℤ) (j : ℕ) → j < n → at (part s n l) j ≡ at l (s + j)
  at_part l j h = get_or-take n (drop s l) j (pos 0) h ∙ get_or-drop s l j (pos 0)

  -- a mark of the stretch
  mark-part : (t : List ℕ) (j : ℕ) → j < n → get_or (part s n t) j 0 ≡ get_or t (s + j) 0
  mark-part t j h = get_or-take n (drop s t) j 0 h ∙ get_or-drop s t j 0

  -- whether a point of it is touched
  touched-part : (t : List ℕ) (j : ℕ) → j < n → is_touched t (s + j) ≡ is_touched (part s n t) j
  touched-part t j h = rw (mark-part t j h)

-- ---- the searches
-- a point of the stretch as a point of the whole
abbrev moved : ℕ → Option ℕ → Option ℕ
moved s none = none
moved s (some p) = some (s + p)

-- references in the stretch as references in the whole
abbrev moved-refs : ℕ → Option References → Option References
moved-refs s none = none
moved-refs s (some r) = some (refs (s + r.before) (s + r.behind))

-- the second search, and the pair, of points so moved
else-moved : (s : ℕ) (x y : Option ℕ) → or_else (moved s x) (moved s y) ≡ moved s (or_else x y)
else-moved s none y = refl
else-moved s (some p) y = refl

paired-moved : (s : ℕ) (x y : Option ℕ) → paired (moved s x) (moved s y) ≡ moved-refs s (paired x y)
paired-moved s none y = refl
paired-moved s (some p) none = refl
paired-moved s (some p) (some q) = refl

module _ (s n : ℕ) (t : List ℕ) where
  -- each search finds the same point
  first_part : (a b m : ℕ) → b ≡ s + a → a + m ≤ n → first_touched t b m ≡ moved s (first_touched (part s n t) a m)
  unfolding first_touched
  first_part a b zero e h = refl
  first_part a b (suc m) e h = by (is_touched (part s n t) a) refl (first_part (suc a) (suc b) m (omega arith) (omega arith))
    where
      same : is_touched t b ≡ is_touched (part s n t) a
      same = rw e (touched-part s n t a (omega arith))

      by : (y : Bool) → is_touched (part s n t) a ≡ y → first_touched t (suc b) m ≡ moved s (first_touched (part s n t) (suc a) m)
          → first_touched t b (suc m) ≡ moved s (first_touched (part s n t) a (suc m))
      by true q rec = rw (same, q) (ap some e)
      by false q rec = rw (same, q) rec

  last-part : (a b m : ℕ) → b ≡ s + a → a + m ≤ n → last_touched t b m ≡ moved s (last_touched (part s n t) a m)
  unfolding last_touched
  last-part a b zero e h = refl
  last-part a b (suc m) e h = by (is_touched (part s n t) (a + m)) refl (last-part a b m e (omega arith))
    where
      there : b + m ≡ s + (a + m)
      there = omega arith

      same : is_touched t (b + m) ≡ is_touched (part s n t) (a + m)
      same = rw there (touched-part s n t (a + m) (omega arith))

      by : (y : Bool) → is_touched (part s n t) (a + m) ≡ y → last_touched t b m ≡ moved s (last_touched (part s n t) a m)
          → last_touched t b (suc m) ≡ moved s (last_touched (part s n t) a (suc m))
      by true q rec = rw (same, q) (ap some there)
      by false q rec = rw (same, q) rec

  module _ (j : ℕ) (inside : j < n) where
    before-part : touched_before t (stretch s n) (s + j) ≡ moved s (touched_before (part s n t) (alone n) j)
    unfolding touched_before
    before-part =
        let e1 : s + j - s ≡ j - 0 = omega arith in
        let e2 : s + n - s ≡ n - 0 = omega arith in
        rw (e1, e2, last-part 0 s (j - 0) (omega arith) (omega arith), last-part 0 s (n - 0) (omega arith) (omega arith))
        (else-moved s (last_touched (part s n t) 0 (j - 0)) (last_touched (part s n t) 0 (n - 0)))

    behind-part : touched_behind t (stretch s n) (s + j) ≡ moved s (touched_behind (part s n t) (alone n) j)
    unfolding touched_behind
    behind-part =
        let e1 : s + n - suc (s + j) ≡ n - suc j = omega arith in
        let e2 : s + n - s ≡ n - 0 = omega arith in
        rw (e1, e2, first_part (suc j) (suc (s + j)) (n - suc j) (omega arith) (omega arith), first_part 0 s (n - 0) (omega arith) (omega arith))
        (else-moved s (first_touched (part s n t) (suc j) (n - suc j)) (first_touched (part s n t) 0 (n - 0)))

    -- so the references are the same points
    refs-part : references t (stretch s n) (s + j) ≡ moved-refs s (references (part s n t) (alone n) j)
    unfolding references
    refs-part = rw (before-part, behind-part)
        (paired-moved s (touched_before (part s n t) (alone n) j) (touched_behind (part s n t) (alone n) j))

-- ---- the point
module _ (s n : ℕ) (o c : List ℤ) where
  -- by one touched point, by two references, and by what was found
  shifted-part : (p j : ℕ) → p < n → j < n → shifted_at o c (s + p) (s + j) ≡ shifted_at (part s n o) (part s n c) p j
  unfolding shifted_at
  shifted-part p j hp hj = rw (at_part s n o p hp, at_part s n c p hp, at_part s n o j hj, at_part s n c j hj)

  between-part : (p q j : ℕ) → p < n → q < n → j < n → between_at o c (refs (s + p) (s + q)) (s + j) ≡ between_at (part s n o) (part s n c) (refs p q) j
  unfolding between_at first_of second_of
  between-part p q j hp hq hj = by (lt_z (at o (s + q)) (at o (s + p))) refl
    where
      by : (b : Bool) → lt_z (at o (s + q)) (at o (s + p)) ≡ b → between_at o c (refs (s + p) (s + q)) (s + j) ≡ between_at (part s n o) (part s n c) (refs p q) j
      by true e =
          rw (at_part s n o p hp, at_part s n o q hq, e, at_part s n o p hp, at_part s n c p hp, at_part s n o q hq, at_part s n c q hq, at_part s n o j hj)
      by false e =
          rw (at_part s n o p hp, at_part s n o q hq, e, at_part s n o p hp, at_part s n c p hp, at_part s n o q hq, at_part s n c q hq, at_part s n o j hj)

  followed-part : (r : Option References) (j : ℕ) → ((x : References) → r ≡ some x → (x.before < n) × (x.behind < n)) → j < n
      → followed o c (moved-refs s r) (s + j) ≡ followed (part s n o) (part s n c) r j
  unfolding followed
  followed-part none j h hj = sym (at_part s n c j hj)
  followed-part (some r) j h hj = by (eqb r.before r.behind) refl
    where
      by : (b : Bool) → eqb r.before r.behind ≡ b → followed o c (moved-refs s (some r)) (s + j) ≡ followed (part s n o) (part s n c) (some r) j
      by true e =
          rw (e, eq-eqb (s + r.before) (s + r.behind) (ap (λ (x : ℕ). s + x) (eqb-true r.before r.behind e)))
          (shifted-part r.before j (h r refl).0 hj)
      by false e =
          rw (e, ne_eqb (s + r.before) (s + r.behind) (λ q. eqb-false r.before r.behind e (omega arith)))
          (between-part r.before r.behind j (h r refl).0 (h r refl).1 hj)

  -- a point of the stretch comes to the same place in the stretch as in the whole
  pub weak-part : (t : List ℕ) (j : ℕ) → j < n → weak_at o c t (stretch s n) (s + j) ≡ weak_at (part s n o) (part s n c) (part s n t) (alone n) j
  unfolding weak_at
  weak-part t j h = by (is_touched (part s n t) j) refl
    where
      by : (b : Bool) → is_touched (part s n t) j ≡ b → weak_at o c t (stretch s n) (s + j) ≡ weak_at (part s n o) (part s n c) (part s n t) (alone n) j
      by true e = rw (touched-part s n t j h, e) (sym (at_part s n c j h))
      by false e =
          rw (touched-part s n t j h, e, refs-part s n t j h)
          (followed-part (references (part s n t) (alone n) j) j (refs-inside (part s n t) n j h) h)

  -- ---- and so it is with what is too steep
  steep-by-part : (p q j : ℕ) → p < n → q < n → j < n → steep_by o c (refs (s + p) (s + q)) (s + j) ≡ steep_by (part s n o) (part s n c) (refs p q) j
  unfolding steep_by first_of second_of
  steep-by-part p q j hp hq hj = by (lt_z (at o (s + q)) (at o (s + p))) refl
    where
      by : (b : Bool) → lt_z (at o (s + q)) (at o (s + p)) ≡ b → steep_by o c (refs (s + p) (s + q)) (s + j) ≡ steep_by (part s n o) (part s n c) (refs p q) j
      by true e =
          rw (at_part s n o p hp, at_part s n o q hq, e, at_part s n o p hp, at_part s n c p hp, at_part s n o q hq, at_part s n c q hq, at_part s n o j hj)
      by false e =
          rw (at_part s n o p hp, at_part s n o q hq, e, at_part s n o p hp, at_part s n c p hp, at_part s n o q hq, at_part s n c q hq, at_part s n o j hj)

  steep-followed-part : (r : Option References) (j : ℕ) → ((x : References) → r ≡ some x → (x.before < n) × (x.behind < n)) → j < n
      → steep_followed o c (moved-refs s r) (s + j) ≡ steep_followed (part s n o) (part s n c) r j
  unfolding steep_followed
  steep-followed-part none j h hj = refl
  steep-followed-part (some r) j h hj = steep-by-part r.before r.behind j (h r refl).0 (h r refl).1 hj

  -- a point of the stretch is too steep in the stretch where it is in the whole
  pub steep-part : (t : List ℕ) (j : ℕ) → j < n → steep_at o c t (stretch s n) (s + j) ≡ steep_at (part s n o) (part s n c) (part s n t) (alone n) j
  unfolding steep_at
  steep-part t j h =
      rw (touched-part s n t j h, refs-part s n t j h, steep-followed-part (references (part s n t) (alone n) j) j (refs-inside (part s n t) n j h) h)
