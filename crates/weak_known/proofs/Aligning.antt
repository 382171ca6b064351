-- The points of a stretch share their references, and those of a contour with one touched point that one: aligning by the lists.
use mathlib.Core.Path.{◌≡◌, refl, sym, ◌∙◌, ap, subst}
use mathlib.Core.Bool.{Bool, true, false, cond}
use mathlib.Core.List.{List}
use mathlib.Core.Logic.{⊎_elim}
use mathlib.Core.Option.{Option, some, none}
use Prim.Native.Nat.{ℕ, zero, suc, ◌+◌, ◌-◌, ◌≤◌, ◌<◌}
use native.Mathlib.Decide.{dec_lt}
use native.Mathlib.Nat.{eq-or-lt_of_le, le_of_suc-le-suc}
use native.Mathlib.Numerals.{add-one}
use native.Mathlib.Omega.{arith}
use borrow.Author.Tests.{lt-ltb, le-ltb}
use lib.Dec.{ltb}
use lib.ListN.{get_or}
use lib.IntN.{ℤ}
use Rattle.weak_contour.specs.Contour.{at, is_touched, first_touched, last_touched, touched_before, touched_behind, refs, references, between_at, shifted_at, weak_at}
use Rattle.weak_contour.specs.Steps.{Clear, Wrote, GentleRefs}
use Rattle.weak_contour.proofs.Searches.{not-touched, marked, unmarked, First, first_is, first-clear, last_is}
use Rattle.weak_contour.proofs.References.{refs-on, refs-same}
use Rattle.weak_contour.proofs.Shifts.{shifted-own}
use Rattle.weak_contour.proofs.Points.{weak-touched, weak-two, weak-one, weak-none, steep-two}
use Rattle.weak_known.specs.Known.{touched_number}
use Rattle.weak_known.specs.Walks.{contour, found_or, prior_at, later_at, Says, TwoOn, LoneOn, GentleOn}
use Rattle.weak_known.proofs.Agreeing.{between-reads, steep-reads}
use Rattle.weak_known.proofs.Entries.{lone-none, lone-one, more-before, more-behind}

-- ---- a clear stretch changes no search
pub last-along : (t : List ℕ) (s i n : ℕ) → s ≤ i → Clear t i (i + n) → last_touched t s (i + n - s) ≡ last_touched t s (i - s)
unfolding last_touched
last-along t s i zero h z = let a : i + 0 ≡ i = omega arith in rw a
last-along t s i (suc n) h z =
    let a : i + suc n - s ≡ suc (i + n - s) = omega arith in
    let b : s + (i + n - s) ≡ i + n = omega arith in
    rw (a, b, not-touched t (i + n) (z (i + n) (omega arith) (omega arith))) (last-along t s i n h (λ j x y. z j (omega arith) y))

pub first-along : (t : List ℕ) (e i n : ℕ) → i + n ≤ e → Clear t i (i + n) → first_touched t i (e - i) ≡ first_touched t (i + n) (e - (i + n))
unfolding first_touched
first-along t e i zero h z = let a : i + 0 ≡ i = omega arith in rw a
first-along t e i (suc n) h z =
    let a : e - i ≡ suc (e - suc i) = omega arith in
    let b : i + suc n ≡ suc i + n = omega arith in
    rw (a, not-touched t i (z i (omega arith) (omega arith)), b) (first-along t e (suc i) n (omega arith) (λ j x y. z j (omega arith) (omega arith)))

-- ---- the untouched point i of a contour with two touched points
module _ (t : List ℕ) (s e i : ℕ) (low : s ≤ i) (high : i < e) (w : TwoOn t s e) (unmark : get_or t i 0 ≡ 0) where
  abbrev prior : ℕ
  prior = found_or w.last (last_touched t s (i - s))

  abbrev later : ℕ
  later = found_or w.first (first_touched t (suc i) (e - suc i))

  -- its references
  pub refs-are : references t (contour s e) i ≡ some (refs prior later)
  unfolding references touched_before touched_behind found_or
  refs-are = by (last_touched t s (i - s)) (first_touched t (suc i) (e - suc i)) refl refl
    where
      by : (x y : Option ℕ) → last_touched t s (i - s) ≡ x → first_touched t (suc i) (e - suc i) ≡ y
          → references t (contour s e) i ≡ some (refs (found_or w.last x) (found_or w.first y))
      by none none ex ey = rw (ex, ey, w.first_is, w.last_is)
      by none (some b) ex ey = rw (ex, ey, w.last_is)
      by (some a) none ex ey = rw (ex, ey, w.first_is)
      by (some a) (some b) ex ey = rw (ex, ey)

  pub refs-differ : prior ≡ later → ⊥
  refs-differ q =
      let f = first_is t s (e - s) w.first w.first_is in
      let l = last_is t s (e - s) w.last w.last_is in
      let r = refs-are ∙ ap (λ (x : ℕ). some (refs prior x)) (sym q) in
      w.different
      (refs-same t (contour s e) i low high prior unmark r w.first f.low (omega (arith, f.high)) f.mark
      ∙ sym (refs-same t (contour s e) i low high prior unmark r w.last l.low (omega (arith, l.high)) l.mark))

  -- where its stretch ends
  pub stretch : (Clear t i (cond (ltb i later) later e)) × (i < cond (ltb i later) later e) × (cond (ltb i later) later e ≤ e)
  unfolding found_or
  stretch = by (first_touched t (suc i) (e - suc i)) refl
    where
      with-i : (b : ℕ) → Clear t (suc i) b → Clear t i b
      with-i b c z h l = ⊎_elim (λ q. subst (λ (x : ℕ). get_or t x 0 ≡ 0) q unmark) (λ q. c z h q) (eq-or-lt_of_le l)

      by : (y : Option ℕ) → first_touched t (suc i) (e - suc i) ≡ y
          → (Clear t i (cond (ltb i (found_or w.first y)) (found_or w.first y) e)) × (i < cond (ltb i (found_or w.first y)) (found_or w.first y) e)
          × (cond (ltb i (found_or w.first y)) (found_or w.first y) e ≤ e)
      by none q =
          let c = first-clear t (suc i) (e - suc i) q in
          let f = first_is t s (e - s) w.first w.first_is in
          let n : w.first ≤ i = within (dec_lt i w.first) f c in
          rw (le-ltb i w.first n) (with-i e (λ z h l. c z (omega arith) l), high, omega arith)
        where
          within : Dec (i < w.first) → First t s (s + (e - s)) w.first → Clear t (suc i) (suc i + (e - suc i)) → w.first ≤ i
          within (yes h) f c = absurd (omega (arith, f.mark, c w.first (omega (arith, f.high)) h))
          within (no n) f c = omega arith
      by (some b) q =
          let f = first_is t (suc i) (e - suc i) b q in
          rw (lt-ltb i b f.low) (with-i b f.clear, f.low, omega (arith, f.high))

-- ---- one turn
-- what is written from s up to i, or up to e where i is behind it
module _ (f : ℕ → ℤ) (s e i : ℕ) (c d : List ℤ) where
  abbrev pub WroteTo : Type 0
  WroteTo = Wrote f s (i - (i - e)) c d

  pub to-here : i ≤ e → Wrote f s i c d → WroteTo
  to-here h = let a : i ≡ i - (i - e) = omega arith in subst (λ (x : ℕ). Wrote f s x c d) a

  pub from-here : i ≤ e → WroteTo → Wrote f s i c d
  from-here h = let a : i - (i - e) ≡ i = omega arith in subst (λ (x : ℕ). Wrote f s x c d) a

  pub to_end : e ≤ i → WroteTo → Wrote f s e c d
  to_end h = let a : i - (i - e) ≡ e = omega arith in subst (λ (x : ℕ). Wrote f s x c d) a

-- a touched point is passed
pub passed : (o c d : List ℤ) (t : List ℕ) (s e i : ℕ) → 0 < get_or t i 0 → Wrote (weak_at o c t (contour s e)) s i c d
    → Wrote (weak_at o c t (contour s e)) s (i + 1) c d
passed o c d t s e i m so =
    record {
      len = so.len;
      inside =
          λ j x y. ⊎_elim (λ z. rw z (so.above i (omega arith) ∙ sym (weak-touched o c t (contour s e) i m))) (λ z. so.inside j x z)
          (eq-or-lt_of_le (le_of_suc-le-suc (rw add-one at y)));
      below = so.below;
      above = λ j x. so.above j (omega arith);
    }

module _ (o c d : List ℤ) (t b h : List ℕ) (s e i p q : ℕ) (low : s ≤ i) (high : i < e) (w : TwoOn t s e) (says : Says t b h s e)
    (ep : p ≡ get_or b i 0) (eq : q ≡ get_or h i 0) (so : Wrote (weak_at o c t (contour s e)) s i c d) where
  -- the numbers
  number-before : p ≡ prior_at t s w.last i
  number-before = ep ∙ says.before i low high ∙ sym (more-before t s e i low high w.first w.last w.first_is w.last_is w.different)

  number_behind : q ≡ later_at t e w.first i
  number_behind = eq ∙ says.behind i low high ∙ sym (more-behind t s e i low high w.first w.last w.first_is w.last_is w.different)

  -- which points are touched, by the number
  pub by_number : e ≤ 4096 → p ≡ 65535 → 0 < get_or t i 0
  unfolding prior_at
  by_number most n = by (is_touched t i) refl number-before
    where
      by : (x : Bool) → is_touched t i ≡ x → p ≡ cond x touched_number (found_or w.last (last_touched t s (i - s))) → 0 < get_or t i 0
      by true m z = marked t i m
      by false m z = absurd (omega (arith, (refs-on t (contour s e) i low high _ (refs-are t s e i low high w (unmarked t i m))).0.1))

  pub by-other : (p ≡ 65535 → ⊥) → get_or t i 0 ≡ 0
  unfolding prior_at
  by-other n = by (is_touched t i) refl number-before
    where
      by : (x : Bool) → is_touched t i ≡ x → p ≡ cond x touched_number (found_or w.last (last_touched t s (i - s))) → get_or t i 0 ≡ 0
      by true m z = absurd (n z)
      by false m z = unmarked t i m

  module _ (unmark : get_or t i 0 ≡ 0) where
    p-is : p ≡ prior t s e i low high w unmark
    unfolding prior_at
    p-is = number-before ∙ ap (λ (x : Bool). cond x touched_number (found_or w.last (last_touched t s (i - s)))) (not-touched t i unmark)

    q-is : q ≡ later t s e i low high w unmark
    unfolding later_at
    q-is = number_behind ∙ ap (λ (x : Bool). cond x touched_number (found_or w.first (first_touched t (suc i) (e - suc i)))) (not-touched t i unmark)

    here : references t (contour s e) i ≡ some (refs p q)
    here =
        refs-are t s e i low high w unmark ∙ ap (λ (x : ℕ). some (refs x (later t s e i low high w unmark))) (sym p-is)
        ∙ ap (λ (x : ℕ). some (refs p x)) (sym q-is)

    apart : p ≡ q → ⊥
    apart z = refs-differ t s e i low high w unmark (sym p-is ∙ z ∙ q-is)

    -- they are touched points of the contour
    pub both-on : ((s ≤ p) × (p < e) × (0 < get_or t p 0)) × ((s ≤ q) × (q < e) × (0 < get_or t q 0))
    both-on = refs-on t (contour s e) i low high (refs p q) here

    -- whose currents are as they came
    kept : (j : ℕ) → s ≤ j → 0 < get_or t j 0 → Dec (j < i) → at d j ≡ at c j
    kept j x m (yes y) = so.inside j x y ∙ weak-touched o c t (contour s e) j m
    kept j x m (no n) = so.above j (omega arith)

    pub kept-p : at d p ≡ at c p
    kept-p = kept p both-on.0.0 both-on.0.2 (dec_lt p i)

    pub kept-q : at d q ≡ at c q
    kept-q = kept q both-on.1.0 both-on.1.2 (dec_lt q i)

    -- the stretch
    module _ (to : ℕ) (et : to ≡ cond (ltb i q) q e) where
      et2 : to ≡ cond (ltb i (later t s e i low high w unmark)) (later t s e i low high w unmark) e
      et2 = et ∙ ap (λ (x : ℕ). cond (ltb i x) x e) q-is

      clear : Clear t i to
      clear = rw et2 (stretch t s e i low high w unmark).0

      pub to_low : i < to
      to_low = rw et2 (stretch t s e i low high w unmark).1

      pub to_high : to ≤ e
      to_high = rw et2 (stretch t s e i low high w unmark).2

      -- its points have the references of i
      along : (j : ℕ) → i ≤ j → j < to → references t (contour s e) j ≡ some (refs p q)
      unfolding references touched_before touched_behind
      along j x y =
          let th = to_high in
          let a : i + (j - i) ≡ j = omega arith in
          let b : suc i + (j - i) ≡ suc j = omega arith in
          let l : last_touched t s (j - s) ≡ last_touched t s (i - s) = rw a at (last-along t s i (j - i) low (λ z u v. clear z (omega arith) v)) in
          let f : first_touched t (suc i) (e - suc i) ≡ first_touched t (suc j) (e - suc j) = rw b
          at (first-along t e (suc i) (j - i) (omega arith) (λ z u v. clear z (omega arith) (omega arith))) in
          rw (l, sym f) here

      comes : (j : ℕ) → i ≤ j → j < to → weak_at o c t (contour s e) j ≡ between_at o c (refs p q) j
      comes j x y = weak-two o c t (contour s e) j p q (clear j y x) (along j x y) apart

      reads : (j : ℕ) → between_at o d (refs p q) j ≡ between_at o c (refs p q) j
      reads j = between-reads o c d j (refs p q) kept-p kept-q

      -- none of them is too steep for these, where none is for its own
      pub stretch-gentle : GentleOn o c t s e → GentleRefs o d (refs p q) i to
      stretch-gentle g j x y =
          steep-reads o c d j (refs p q) kept-p kept-q ∙ steep-two o c t (contour s e) j p q (clear j y x) (along j x y)
          (g j (omega arith) (omega (arith, to_high)))

      turn-stretch : (g : List ℤ) → Wrote (between_at o d (refs p q)) i to d g → Wrote (weak_at o c t (contour s e)) s to c g
      turn-stretch g v =
          record {
            len = v.len ∙ so.len;
            inside = λ j x y. inner j x y (dec_lt j i);
            below = λ j x. v.below j (omega arith) ∙ so.below j x;
            above = λ j x. v.above j x ∙ so.above j (omega (arith, to_low));
          }
        where
          inner : (j : ℕ) → s ≤ j → j < to → Dec (j < i) → at g j ≡ weak_at o c t (contour s e) j
          inner j x y (yes z) = v.below j z ∙ so.inside j x z
          inner j x y (no n) = v.inside j (omega arith) y ∙ reads j ∙ sym (comes j (omega arith) y)

      -- and where a touched point ends it, that one is passed too
      ends-touched : to < e → 0 < get_or t to 0
      ends-touched l = by (ltb i q) et
        where
          by : (x : Bool) → to ≡ cond x q e → 0 < get_or t to 0
          by true z = subst (λ (y : ℕ). 0 < get_or t y 0) (sym z) both-on.1.2
          by false z = absurd (omega arith)

      pub turn-past : (g : List ℤ) → Wrote (between_at o d (refs p q)) i to d g → WroteTo (weak_at o c t (contour s e)) s e (to + 1) c g
      turn-past g v = by (dec_lt to e)
        where
          by : Dec (to < e) → WroteTo (weak_at o c t (contour s e)) s e (to + 1) c g
          by (yes l) = to-here (weak_at o c t (contour s e)) s e (to + 1) c g (omega arith) (passed o c g t s e to (ends-touched l) (turn-stretch g v))
          by (no n) =
              let a : to ≡ to + 1 - (to + 1 - e) = omega (arith, to_high) in subst (λ (x : ℕ). Wrote (weak_at o c t (contour s e)) s x c g) a (turn-stretch g v)

-- ---- a contour of which one point is touched or none; p is what the search finds
module _ (o c : List ℤ) (t : List ℕ) (s e p : ℕ) (lo : s ≤ e) (found : p ≡ found_or e (first_touched t s (e - s))) where
  none_is : e ≤ p → first_touched t s (e - s) ≡ none
  unfolding found_or
  none_is h = by (first_touched t s (e - s)) refl found
    where
      by : (x : Option ℕ) → first_touched t s (e - s) ≡ x → p ≡ found_or e x → x ≡ none
      by none q r = refl
      by (some f) q r = absurd (omega (arith, (first_is t s (e - s) f q).high))

  pub lone-still : e ≤ p → Wrote (weak_at o c t (contour s e)) s e c c
  lone-still h =
      record {
        len = refl;
        inside = λ i x y. sym (weak-none o c t (contour s e) i (clear i x y) (lone-none t s e i x y (clear i x y) (none_is h)));
        below = λ i x. refl;
        above = λ i x. refl;
      }
    where
      clear : (i : ℕ) → s ≤ i → i < e → get_or t i 0 ≡ 0
      clear i x y = first-clear t s (e - s) (none_is h) i (omega arith) x

  module _ (in_front : p < e) where
    first_one : first_touched t s (e - s) ≡ some p
    unfolding found_or
    first_one = by (first_touched t s (e - s)) refl found
      where
        by : (x : Option ℕ) → first_touched t s (e - s) ≡ x → p ≡ found_or e x → x ≡ some p
        by none q r = absurd (omega arith)
        by (some f) q r = ap some (sym r)

    pub lone-low : s ≤ p
    lone-low = (first_is t s (e - s) p first_one).low

    module _ (lone : LoneOn t s e) where
      last_one : last_touched t s (e - s) ≡ some p
      unfolding found_or
      last_one = by (last_touched t s (e - s)) (found ∙ lone)
        where
          by : (x : Option ℕ) → p ≡ found_or e x → x ≡ some p
          by none r = absurd (omega arith)
          by (some f) r = ap some (sym r)

      only : (i : ℕ) → s ≤ i → i < e → 0 < get_or t i 0 → i ≡ p
      only i x y m = by (dec_lt i p) (dec_lt p i)
        where
          by : Dec (i < p) → Dec (p < i) → i ≡ p
          by (yes l) r = absurd (omega (arith, (first_is t s (e - s) p first_one).clear i l x))
          by (no l) (yes r) = absurd (omega (arith, (last_is t s (e - s) p last_one).clear i (omega arith) r))
          by (no l) (no r) = omega arith

      comes-to : (i : ℕ) → s ≤ i → i < e → shifted_at o c p i ≡ weak_at o c t (contour s e) i
      comes-to i x y = by (is_touched t i) refl
        where
          by : (b : Bool) → is_touched t i ≡ b → shifted_at o c p i ≡ weak_at o c t (contour s e) i
          by true m = let z = only i x y (marked t i m) in rw z (shifted-own o c p) ∙ sym (weak-touched o c t (contour s e) i (marked t i m))
          by false m = sym (weak-one o c t (contour s e) i p (unmarked t i m) (lone-one t s e i x y p (unmarked t i m) first_one last_one))

      pub lone-shift : (d : List ℤ) → Wrote (shifted_at o c p) s e c d → Wrote (weak_at o c t (contour s e)) s e c d
      lone-shift d w = record { len = w.len; inside = λ i x y. w.inside i x y ∙ comes-to i x y; below = w.below; above = w.above }
