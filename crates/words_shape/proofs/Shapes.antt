-- Readings step by step: what the code's tests show of a definition.
use Rattle.std.specs.Prelude.{None, Some}
use mathlib.Core.Path.{◌≡◌, refl, sym, ap, ◌∙◌}
use mathlib.Core.Bool.{Bool, true, false, cond, ◌&&◌, and-false, or-true}
use mathlib.Core.List.{List, [], ◌∷◌}
use Prim.Native.Nat.{ℕ, suc, ◌+◌, ◌-◌, ◌≤◌, ◌<◌}
use native.Mathlib.Numerals.{add-one}
use native.Mathlib.Omega.{arith}
use borrow.Author.Tests.{lt-ltb, le-ltb}
use lib.Dec.{ltb, eqb}
use lib.ListN.{length, get_or, drop, drop_of_length-le}
use lib.Seq.{drop-cons}
use lib.IntN.{ℤ, pos}
use lib.Signed.{le_z}
use Rattle.signed.specs.Parts.{up, dn}
use Rattle.signed.proofs.Signed.{to-le-true, to-le-false, eq_z-yes, eq_z-no}
use Rattle.words.specs.Word.{word_at}
use Rattle.words.specs.Edge.{blue_place, fitted_place}
use Rattle.words_shape.specs.Place.{Place}
use Rattle.words_shape.specs.declared.field.Range.{Range}
use Rattle.words_shape.specs.declared.element.Record.TheVariants as Records
use Rattle.words_shape.specs.declared.element.Element.{Element}
use Rattle.words_shape.specs.Shape.{and_then, is_in, field, fields, ranges_of, blue_shown, edge, element, elements, is_run}

-- ---- readings in a row
-- x is what the next reading gives from p
pub record Goes (x p : Place) (next : ℕ → Place) : Type 0 where
  pub on : x ≡ and_then p next

pub then-nowhere : {x p : Place} {next : ℕ → Place} → Goes x p next → p ≡ None → None ≡ x
unfolding and_then
then-nowhere {x} {p} {next} g q = sym (g.on ∙ ap (λ (y : Place). and_then y next) q)

pub then_at : {x p : Place} {next : ℕ → Place} {n : ℕ} → Goes x p next → p ≡ Some n → x ≡ next n
unfolding and_then
then_at {x} {p} {next} g q = g.on ∙ ap (λ (y : Place). and_then y next) q

-- ---- a field
-- a word below its field's values, above them, and within them
module _ (r : Range) (w : ℤ) where
  pub below-range : up w + dn r.low < up r.low + dn w → is_in r w ≡ false
  below-range h = rw (to-le-false r.low w h)

  pub above-range : up r.high + dn w < up w + dn r.high → is_in r w ≡ false
  above-range h = rw (to-le-false w r.high h, and-false)

  pub in_range : up r.low + dn w ≤ up w + dn r.low → up w + dn r.high ≤ up r.high + dn w → is_in r w ≡ true
  in_range l h = rw (to-le-true r.low w l, to-le-true w r.high h)

pub field_end : (r : Range) (ws : List ℤ) (at : ℕ) → length ws ≤ at → field r ws at ≡ None
unfolding field
field_end r ws at h = rw (le-ltb at (length ws) h)

module _ (r : Range) (ws : List ℤ) (at : ℕ) (inside : at < length ws) where
  pub field_off : is_in r (get_or ws at (pos 0)) ≡ false → field r ws at ≡ None
  unfolding field
  field_off e = rw (lt-ltb at (length ws) inside, e)

  pub field-on : is_in r (get_or ws at (pos 0)) ≡ true → field r ws at ≡ Some (at + 1)
  unfolding field
  field-on e = rw (lt-ltb at (length ws) inside, e)

-- ---- fields in a row
pub fields-step : (rs : List Range) (d : Range) (ws : List ℤ) (i at : ℕ) → i < length rs
    → fields (drop i rs) ws at ≡ and_then (field (get_or rs i d) ws at) (fields (drop (i + 1) rs) ws)
unfolding fields
fields-step rs d ws i at h = rw (add-one, drop-cons rs i d h)

pub fields-end : (rs : List Range) (ws : List ℤ) (i at : ℕ) → length rs ≤ i → fields (drop i rs) ws at ≡ Some at
unfolding fields
fields-end rs ws i at h = rw (drop_of_length-le rs {i = i} h)

-- a record that is there is as long as its list of fields
field-place : (r : Range) (ws : List ℤ) (at n : ℕ) → field r ws at ≡ Some n → n ≡ at + 1
unfolding field
field-place r ws at n e = by (ltb at (length ws) && (le_z r.low (get_or ws at (pos 0)) && le_z (get_or ws at (pos 0)) r.high)) e
  where
    by : (t : Bool) → cond t (Some (at + 1)) None ≡ Some n → n ≡ at + 1
    by true e = cc
    by false e = let z : ◌≡◌ {A = ℕ} 0 1 = cc in absurd (omega arith)

pub fields-place : (rs : List Range) (ws : List ℤ) (at n : ℕ) → fields rs ws at ≡ Some n → n ≡ at + length rs
unfolding fields and_then
fields-place [] ws at n e = let q : at ≡ n = cc in omega arith
fields-place (r ∷ rs) ws at n e = by (field r ws at) refl e (fields-place rs ws)
  where
    by : (p : Place) → field r ws at ≡ p → and_then p (fields rs ws) ≡ Some n → ((m k : ℕ) → fields rs ws m ≡ Some k → k ≡ m + length rs) → n ≡ at + length (r ∷ rs)
    by None f e again = let z : ◌≡◌ {A = ℕ} 0 1 = cc in absurd (omega arith)
    by (Some m) f e again = omega (arith, field-place r ws at m f, again m n e)

-- ---- lists
pub elements-step : (n i : ℕ) (e : Element) (ws : List ℤ) (at : ℕ) → i < n → elements (n - i) e ws at ≡ and_then (element e ws at) (elements (n - (i + 1)) e ws)
unfolding elements
elements-step n i e ws at h = let q : n - i ≡ suc (n - (i + 1)) = omega arith in rw q

pub elements-end : (n i : ℕ) (e : Element) (ws : List ℤ) (at : ℕ) → n ≤ i → elements (n - i) e ws at ≡ Some at
unfolding elements
elements-end n i e ws at h = let q : n - i ≡ 0 = omega arith in rw q

-- ---- an edge
pub edge-nowhere : (ws : List ℤ) (at : ℕ) → fields (ranges_of Records.Edge) ws at ≡ None → None ≡ edge ws at
unfolding edge and_then
edge-nowhere ws at e = rw e

module _ (ws : List ℤ) (at n : ℕ) (there : fields (ranges_of Records.Edge) ws at ≡ Some n) where
  pub edge-blue : word_at ws (at + blue_place) ≡ pos 1 → Some n ≡ edge ws at
  unfolding edge and_then blue_shown
  edge-blue e = rw (there, eq_z-yes (word_at ws (at + blue_place)) (pos 1) e)

  pub edge-plain : word_at ws (at + fitted_place) ≡ pos 0 → Some n ≡ edge ws at
  unfolding edge and_then blue_shown
  edge-plain e = rw (there, eq_z-yes (word_at ws (at + fitted_place)) (pos 0) e, or-true)

  pub edge-breaks : (word_at ws (at + blue_place) ≡ pos 1 → ⊥) → (word_at ws (at + fitted_place) ≡ pos 0 → ⊥) → None ≡ edge ws at
  unfolding edge and_then blue_shown
  edge-breaks p q = rw (there, eq_z-no (word_at ws (at + blue_place)) (pos 1) p, eq_z-no (word_at ws (at + fitted_place)) (pos 0) q)

-- ---- lists without a count
module _ (n : ℕ) (e : Element) (ws : List ℤ) where
  pub run_none : elements n e ws 0 ≡ None → is_run n e ws ≡ false
  unfolding is_run
  run_none p = rw p

  pub run_ends : (m : ℕ) → elements n e ws 0 ≡ Some m → is_run n e ws ≡ eqb m (length ws)
  unfolding is_run
  run_ends m p = rw p
