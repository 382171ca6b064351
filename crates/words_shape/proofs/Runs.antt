-- Runs of elements of equally many words: how long they are, and where each stands.
use Rattle.std.specs.Prelude.{None, Some}
use mathlib.Core.Path.{◌≡◌, refl, sym, ap, subst, ◌∙◌}
use mathlib.Core.Bool.{Bool, true, false, cond}
use mathlib.Core.List.{List}
use Prim.Native.Nat.{ℕ, zero, suc, ◌+◌, ◌*◌, ◌<◌}
use native.Mathlib.Omega.{arith}
use borrow.Author.Tests.{eqb-true}
use lib.ListN.{length}
use lib.IntN.{ℤ}
use Rattle.words.specs.Edge.{edge_size}
use Rattle.words_shape.specs.Place.{Place}
use Rattle.words_shape.specs.declared.element.Record.TheVariants as Records
use Rattle.words_shape.specs.declared.element.Element.{Element}
use Rattle.words_shape.specs.Shape.{and_then, is_at, fields, ranges_of, blue_shown, edge, element, elements, is_run}
use Rattle.words_shape.proofs.Shapes.{fields-place}

-- ---- an edge
-- one that is there: its fields, and no fitted position without a blue
pub record EdgeThere (ws : List ℤ) (at n : ℕ) : Type 0 where
  pub behind : n ≡ at + edge_size
  pub fields_are : fields (ranges_of Records.Edge) ws at ≡ Some n
  pub blue : blue_shown ws at ≡ true

pub edge-there : (ws : List ℤ) (at n : ℕ) → edge ws at ≡ Some n → EdgeThere ws at n
unfolding edge and_then
edge-there ws at n e = by (fields (ranges_of Records.Edge) ws at) refl e
  where
    tested : (t : Bool) (m : ℕ) → t ≡ blue_shown ws at → fields (ranges_of Records.Edge) ws at ≡ Some m → cond t (Some m) None ≡ Some n → EdgeThere ws at n
    tested true m q f e =
        let p : m ≡ n = cc in record { behind = omega (arith, p, fields-place (ranges_of Records.Edge) ws at m f); fields_are = f ∙ ap Some p; blue = sym q }
    tested false m q f e = absurd (let z : ◌≡◌ {A = ℕ} 0 1 = cc in omega arith)

    by : (p : Place) → fields (ranges_of Records.Edge) ws at ≡ p → and_then p (λ next. cond (blue_shown ws at) (Some next) None) ≡ Some n → EdgeThere ws at n
    by None f e = absurd (let z : ◌≡◌ {A = ℕ} 0 1 = cc in omega arith)
    by (Some m) f e = tested (blue_shown ws at) m refl f e

-- ---- elements of k words each
module _ (e : Element) (k : ℕ) (ws : List ℤ) (place : (at n : ℕ) → element e ws at ≡ Some n → n ≡ at + k) where
  elements-place : (n at m : ℕ) → elements n e ws at ≡ Some m → m ≡ at + k * n
  unfolding elements and_then
  elements-place zero at m q = let p : at ≡ m = cc in omega arith
  elements-place (suc n) at m q = by (element e ws at) refl q (elements-place n)
    where
      by : (p : Place) → element e ws at ≡ p → and_then p (elements n e ws) ≡ Some m → ((a b : ℕ) → elements n e ws a ≡ Some b → b ≡ a + k * n) → m ≡ at + k * suc n
      by None f q again = let z : ◌≡◌ {A = ℕ} 0 1 = cc in absurd (omega arith)
      by (Some a) f q again = omega (arith, place at a f, again a m q)

  -- where the i-th of them ends
  abbrev Ends : ℕ → ℕ → Type 0
  Ends at i = element e ws (at + k * i) ≡ Some (at + k * i + k)

  elements-at : (n at m : ℕ) → elements n e ws at ≡ Some m → (i : ℕ) → i < n → Ends at i
  unfolding elements and_then
  elements-at zero at m q i h = absurd (omega arith)
  elements-at (suc n) at m q i h = by (element e ws at) refl q (elements-at n) i h
    where
      first : (a : ℕ) → element e ws at ≡ Some a → Ends at 0
      first a f = let z : at + k * 0 ≡ at = omega arith in let p : a ≡ at + k * 0 + k = omega (arith, place at a f) in ap (element e ws) z ∙ f ∙ ap Some p

      later : (a i : ℕ) → a ≡ at + k → Ends a i → Ends at (suc i)
      later a i p q = let z : a + k * i ≡ at + k * suc i = omega (arith, p) in subst (λ (x : ℕ). element e ws x ≡ Some (x + k)) z q

      by : (p : Place) → element e ws at ≡ p → and_then p (elements n e ws) ≡ Some m → ((a b : ℕ) → elements n e ws a ≡ Some b → (i : ℕ) → i < n → Ends a i)
          → (i : ℕ) → i < suc n → Ends at i
      by None f q again i h = let z : ◌≡◌ {A = ℕ} 0 1 = cc in absurd (omega arith)
      by (Some a) f q again zero h = first a f
      by (Some a) f q again (suc i) h = later a i (place at a f) (again a m q i (omega arith))

  -- a list that is n elements and no more
  pub run_length : (n : ℕ) → is_run n e ws ≡ true → length ws ≡ k * n
  unfolding is_run
  run_length n h = by (elements n e ws 0) refl h
    where
      by : (p : Place) → elements n e ws 0 ≡ p → is_at (length ws) p ≡ true → length ws ≡ k * n
      by None f h = let z : ◌≡◌ {A = ℕ} 0 1 = cc in absurd (omega arith)
      by (Some m) f h = omega (arith, elements-place n 0 m f, eqb-true m (length ws) h)

  pub run_at : (n : ℕ) → is_run n e ws ≡ true → (i : ℕ) → i < n → element e ws (k * i) ≡ Some (k * i + k)
  unfolding is_run
  run_at n h i l = by (elements n e ws 0) refl h
    where
      by : (p : Place) → elements n e ws 0 ≡ p → is_at (length ws) p ≡ true → element e ws (k * i) ≡ Some (k * i + k)
      by None f h = let z : ◌≡◌ {A = ℕ} 0 1 = cc in absurd (omega arith)
      by (Some m) f h = let z : 0 + k * i ≡ k * i = omega arith in subst (λ (x : ℕ). element e ws x ≡ Some (x + k)) z (elements-at n 0 m f i l)
