-- One contour, and all of them: what is said by the lists.
use mathlib.Core.Path.{◌≡◌, refl, sym, ◌∙◌, ap}
use mathlib.Core.Bool.{Bool, true, false, ◌&&◌}
use mathlib.Core.List.{List}
use mathlib.Core.Option.{Option, some, none}
use Prim.Native.Nat.{ℕ, suc, ◌+◌, ◌-◌, ◌≤◌, ◌<◌}
use native.Mathlib.Omega.{arith}
use lib.ListN.{length, get_or, drop, drop_of_length-le}
use Rattle.weak_contour.specs.Contour.{first_touched, last_touched}
use Rattle.weak_contour.proofs.Searches.{first_is, last_is}
use Rattle.weak.specs.Weak.{ends_hold, contour_of}
use Rattle.weak.proofs.Refusals.{EndAt, end-at}
use Rattle.weak.proofs.Contours.{contour-here, contour-later}
use Rattle.weak_known.specs.Known.{same_as, matches, before_at, behind_at, one_or_none_number, no_contour_number}
use Rattle.weak_known.specs.Walks.{contour, found_or, before_on, behind_on, plain_at, prior_at, later_at, said_on, Put}
use Rattle.weak_known.proofs.Comparing.{same_by, same-split}
use Rattle.weak_known.proofs.Entries.{known-on, plain-before, plain-behind, lone-before, lone-behind, more-before, more-behind, both_found}

-- what a search finds is not behind the end
pub first-most : (t : List ℕ) (s e : ℕ) → s ≤ e → found_or e (first_touched t s (e - s)) ≤ e
unfolding found_or
first-most t s e h = by (first_touched t s (e - s)) refl
  where
    by : (x : Option ℕ) → first_touched t s (e - s) ≡ x → found_or e x ≤ e
    by none q = omega arith
    by (some p) q = omega (arith, (first_is t s (e - s) p q).high)

pub last-most : (t : List ℕ) (s e : ℕ) → s ≤ e → found_or e (last_touched t s (e - s)) ≤ e
unfolding found_or
last-most t s e h = by (last_touched t s (e - s)) refl
  where
    by : (x : Option ℕ) → last_touched t s (e - s) ≡ x → found_or e x ≤ e
    by none q = omega arith
    by (some p) q = omega (arith, (last_is t s (e - s) p q).high)

-- other functions with the same values
pub put-by : (f g : ℕ → ℕ) (a b : ℕ) (l m : List ℕ) → ((i : ℕ) → a ≤ i → i < b → f i ≡ g i) → Put f a b l m → Put g a b l m
put-by f g a b l m h w = record { len = w.len; inside = λ i x y. w.inside i x y ∙ h i x y; below = w.below; above = w.above }

-- ---- one contour, by what its two searches found, f and p
module _ (t : List ℕ) (s e f p : ℕ) (ef : f ≡ found_or e (first_touched t s (e - s))) (ep : p ≡ found_or e (last_touched t s (e - s))) where
  -- at most one point is touched
  module _ (q : f ≡ p) where
    pub lone-is-before : (i : ℕ) → s ≤ i → i < e → plain_at t one_or_none_number i ≡ before_on t (contour s e) i
    lone-is-before i a b = lone-before t s e i a b (sym ef ∙ q ∙ ep)

    pub lone-is-behind : (i : ℕ) → s ≤ i → i < e → plain_at t one_or_none_number i ≡ behind_on t (contour s e) i
    lone-is-behind i a b = lone-behind t s e i a b (sym ef ∙ q ∙ ep)

  -- more are
  module _ (n : f ≡ p → ⊥) where
    found-both : (first_touched t s (e - s) ≡ some f) × (last_touched t s (e - s) ≡ some p)
    found-both = let r = both_found t s e (λ z. n (ef ∙ z ∙ sym ep)) in (r.0 ∙ ap some (sym ef), r.1 ∙ ap some (sym ep))

    pub more-is-before : (i : ℕ) → s ≤ i → i < e → prior_at t s p i ≡ before_on t (contour s e) i
    more-is-before i a b = more-before t s e i a b f p found-both.0 found-both.1 n

    pub more-is-behind : (i : ℕ) → s ≤ i → i < e → later_at t e f i ≡ behind_on t (contour s e) i
    more-is-behind i a b = more-behind t s e i a b f p found-both.0 found-both.1 n

-- ---- the loop over contours: those up to the end k are passed, the next starts at s
pub record Passed (t es : List ℕ) (s k : ℕ) : Type 0 where
  pub count : k ≤ length es
  pub within : s ≤ length t
  pub ends : ends_hold s (length t) (drop k es) ≡ true
  pub search : (i : ℕ) → s ≤ i → contour_of 0 es i ≡ contour_of s (drop k es) i

pub passed_none : (t es : List ℕ) → ends_hold 0 (length t) es ≡ true → Passed t es 0 0
passed_none t es e = record { count = omega arith; within = omega arith; ends = e; search = λ i h. refl }

module _ (t es : List ℕ) (s k e : ℕ) (h : k < length es) (q : e ≡ get_or es k 0 + 1) (j : Passed t es s k) where
  bounds : EndAt s (length t) es k
  bounds = end-at s (length t) es k h j.ends

  pub turn_low : s < e
  turn_low = omega (arith, bounds.low)

  pub turn-high : e ≤ length t
  turn-high = omega (arith, bounds.high)

  pub passed-next : Passed t es e (k + 1)
  passed-next =
      let b = bounds in
      let g : e ≡ suc (get_or es k 0) = omega arith in
      record {
        count = omega arith;
        within = turn-high;
        ends = rw q b.rest;
        search = λ i a. j.search i (omega (arith, b.low))
            ∙ contour-later s es k i h (omega arith) ∙ rw (← g);
      }

  -- its points are on the contour from s up to e
  pub on-contour : (i : ℕ) → s ≤ i → i < e → contour_of 0 es i ≡ some (contour s e)
  on-contour i a b =
      let g : suc (get_or es k 0) ≡ e = omega arith in
      j.search i a ∙ contour-here s es k i h (omega arith) ∙ ap (λ (x : ℕ). some (contour s x)) g

  pub before-is : (i : ℕ) → s ≤ i → i < e → before_on t (contour s e) i ≡ before_at t es i
  unfolding before_on before_at
  before-is i a b = rw (known-on t es i (contour s e) (on-contour i a b))

  pub behind-is : (i : ℕ) → s ≤ i → i < e → behind_on t (contour s e) i ≡ behind_at t es i
  unfolding behind_on behind_at
  behind-is i a b = rw (known-on t es i (contour s e) (on-contour i a b))

-- behind the last contour no point has one
pub on_none : (t es : List ℕ) (s k i : ℕ) → Passed t es s k → length es ≤ k → s ≤ i → contour_of 0 es i ≡ none
unfolding contour_of
on_none t es s k i j a h = j.search i h ∙ rw (drop_of_length-le es a)

-- ---- the match
-- what is left to compare from s on
unfoldable pub left : List ℕ → List ℕ → List ℕ → List ℕ → ℕ → Bool
left t es b h s = same_as b (before_at t es) s (length t - s) && same_as h (behind_at t es) s (length t - s)

pub left-all : (t es b h : List ℕ) → matches t es b h ≡ left t es b h 0
unfolding matches left
left-all t es b h = let z : length t - 0 ≡ length t = omega arith in rw z

mix : (a b c d : Bool) → ((a && b) && (c && d)) ≡ ((a && c) && (b && d))
mix true true c d = refl
mix true false true d = refl
mix true false false d = refl
mix false b c d = refl

and_no : (a b : Bool) → a ≡ false → (a && b) ≡ false
and_no a b e = rw e

module _ (t es b h : List ℕ) (s k e : ℕ) (m : k < length es) (q : e ≡ get_or es k 0 + 1) (j : Passed t es s k) where
  left_is : left t es b h s ≡ (said_on t b h s e && left t es b h e)
  unfolding left
  left_is =
      let lo = turn_low t es s k e m q j in
      let hi = turn-high t es s k e m q j in
      let n : length t - s ≡ (e - s) + (length t - e) = omega arith in
      let z : s + (e - s) ≡ e = omega arith in
      let u = ap (same_as b (before_at t es) s) n ∙ same-split b (before_at t es) s (e - s) (length t - e)
      ∙ ap (λ (x : ℕ). same_as b (before_at t es) s (e - s) && same_as b (before_at t es) x (length t - e)) z
      ∙ ap (λ (x : Bool). x && same_as b (before_at t es) e (length t - e))
      (sym (same_by b _ _ s (e - s) (λ i c d. before-is t es s k e m q j i c (omega arith)))) in
      let v = ap (same_as h (behind_at t es) s) n ∙ same-split h (behind_at t es) s (e - s) (length t - e)
      ∙ ap (λ (x : ℕ). same_as h (behind_at t es) s (e - s) && same_as h (behind_at t es) x (length t - e)) z
      ∙ ap (λ (x : Bool). x && same_as h (behind_at t es) e (length t - e))
      (sym (same_by h _ _ s (e - s) (λ i c d. behind-is t es s k e m q j i c (omega arith)))) in
      (λ i. u i && v i) ∙ mix (same_as b (before_on t (contour s e)) s (e - s)) (same_as b (before_at t es) e (length t - e))
      (same_as h (behind_on t (contour s e)) s (e - s)) (same_as h (behind_at t es) e (length t - e))

  pub left-fails : (x : Bool) → x ≡ said_on t b h s e → x ≡ false → left t es b h s ≡ false
  left-fails x a c = left_is ∙ and_no _ _ (sym a ∙ c)

  pub left-next : (x : Bool) → x ≡ said_on t b h s e → x ≡ true → left t es b h s ≡ left t es b h e
  left-next x a c = left_is ∙ ap (λ (y : Bool). y && left t es b h e) (sym a ∙ c)

pub left_end : (t es b h : List ℕ) (s k : ℕ) (x y : Bool) → Passed t es s k → length es ≤ k → x ≡ same_as b (plain_at t no_contour_number) s (length t - s)
    → y ≡ same_as h (plain_at t no_contour_number) s (length t - s) → (x && y) ≡ left t es b h s
unfolding left
left_end t es b h s k x y j a u v =
    let u2 = u ∙ same_by b _ _ s (length t - s) (λ i c d. plain-before t es i (on_none t es s k i j a c)) in
    let v2 = v ∙ same_by h _ _ s (length t - s) (λ i c d. plain-behind t es i (on_none t es s k i j a c)) in
    λ i. u2 i && v2 i
