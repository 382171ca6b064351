-- The fields of an edge that strong points read, by their words.
use mathlib.Core.Path.{◌≡◌, sym, ap, subst, ◌∙◌}
use mathlib.Core.Bool.{true, false}
use mathlib.Core.List.{List}
use Prim.Native.Nat.{ℕ, ◌+◌, ◌-◌, ◌*◌, ◌≤◌, ◌<◌}
use native.Mathlib.Omega.{arith}
use lib.IntN.{ℤ, pos, negsuc}
use lib.Signed.{le_z, ◌<ℤ◌}
use Rattle.signed.specs.Range.{Between}
use Rattle.signed.proofs.Choices.{cond_cases}
use Rattle.signed.proofs.Order.{le-true}
use Rattle.refusals.proofs.Tests.{and_first, and_second}
use Rattle.axis.specs.declared.edge.Axis.{Axis}
use Rattle.axis.specs.declared.edge.Edge.{Edge}
use Rattle.axis.specs.declared.kinds.Dimension.TheVariants as Dimensions
use Rattle.axis.specs.Edge.{edge_at}
use Rattle.axis.specs.Handed.{Short}
use Rattle.axis.specs.Limits.{most_pos}
use Rattle.axis.specs.Refusals.{inside}
use Rattle.words.specs.Edge.{edge_size, opos_place, pos_place, edges_in, edge_words, word_of_edge}
use Rattle.words.specs.Field.{short_of}
use Rattle.words.specs.Word.{word_at}
use Rattle.words_call.specs.Lent.{edges_of}
use Rattle.words_edge.specs.Whole.{Whole}
use Rattle.words_edge.proofs.Reading.{fpos-in, opos-in, pos-in}
use Rattle.words_edge.proofs.Wholes.{edges-len, edge_in}
use Rattle.strong.specs.declared.place.Place.TheVariants.{Stays}
use Rattle.strong.specs.Strong.{most_one_by_one, one_by_one, by_halving, fpos_at, found, with_edge, on_or_before, place_of}
use Rattle.strong.specs.Steps.{Around}
use Rattle.strong.proofs.Search.{found-few, found-many, around}
use Rattle.strong.proofs.Places.{place_none, place-low, place-high, place_inside, lies-inside}

-- a word is read as a number of 16 bits
short-of : (w : ℤ) → Short (short_of w)
unfolding short_of
short-of w =
    cond_cases Short (inside (negsuc 32767) (pos 32767) w) w (pos 0)
    (λ e. omega (arith, le-true (negsuc 32767) w (and_first (le_z (negsuc 32767) w) _ e), le-true w (pos 32767) (and_second (le_z (negsuc 32767) w) _ e)))
    (λ e. omega arith)

module _ (ws : List ℤ) (i : ℕ) (w : Whole ws) (h : i < edges_in ws) where
  -- its font position, which is the word itself
  pub fpos-word : word_at ws (edge_size * i) ≡ (edge_at (edges_of ws) i).fpos
  unfolding edge_words
  fpos-word =
      let q : edge_size * i ≡ edge_size * i + 0 = omega arith in
      ap (word_at ws) q ∙ sym (w.word i 0 h (omega arith)) ∙ ap (λ (e : Edge). e.fpos) (sym (edge_in ws Dimensions.Horizontal i w h))

  pub fpos-short : Short (edge_at (edges_of ws) i).fpos
  fpos-short = subst Short (sym (fpos-in ws Dimensions.Horizontal i w h)) (short-of _)

  -- its original position and its position
  pub opos-word : word_at ws (word_of_edge i opos_place) ≡ (edge_at (edges_of ws) i).opos
  opos-word = sym (opos-in ws Dimensions.Horizontal i w h)

  pub pos_word : word_at ws (word_of_edge i pos_place) ≡ (edge_at (edges_of ws) i).pos
  pos_word = sym (pos-in ws Dimensions.Horizontal i w h)

-- ---- by the edges that the words have
module _ (ws : List ℤ) (u : ℤ) where
  abbrev A : Axis
  A = edges_of ws

  pub few-found : edges_in ws ≤ most_one_by_one → one_by_one (fpos_at A) u 0 (edges_in ws) ≡ found A u
  few-found h = sym (found-few A u (omega (arith, edges-len ws)) ∙ ap (one_by_one (fpos_at A) u 0) (edges-len ws))

  pub many-found : most_one_by_one < edges_in ws → by_halving (fpos_at A) u (edges_in ws) 0 (edges_in ws) ≡ found A u
  many-found h = sym (found-many A u (omega (arith, edges-len ws)) ∙ ap (λ (n : ℕ). by_halving (fpos_at A) u n 0 n) (edges-len ws))

  pub none-placed : (v : ℤ) → edges_in ws ≡ 0 → place_of A u v ≡ Stays
  none-placed v e = place_none A u v (edges-len ws ∙ e)

  module _ (v : ℤ) (some : edges_in ws ≡ 0 → ⊥) where
    pub low-placed : le_z u (fpos_at A 0) ≡ true → place_of A u v ≡ with_edge A 0 v
    low-placed e = place-low A u v (λ q. some (sym (edges-len ws) ∙ q)) e

    module _ (e : le_z u (fpos_at A 0) ≡ false) where
      pub high-placed : le_z (fpos_at A (edges_in ws - 1)) u ≡ true → place_of A u v ≡ with_edge A (edges_in ws - 1) v
      high-placed g =
          subst (λ (n : ℕ). le_z (fpos_at A (n - 1)) u ≡ true → place_of A u v ≡ with_edge A (n - 1) v) (edges-len ws)
          (place-high A u v (λ q. some (sym (edges-len ws) ∙ q)) e) g

      module _ (g : le_z (fpos_at A (edges_in ws - 1)) u ≡ false) where
        last_is : le_z (fpos_at A (A.len - 1)) u ≡ false
        last_is = subst (λ (n : ℕ). le_z (fpos_at A (n - 1)) u ≡ false) (sym (edges-len ws)) g

        pub inner-placed : place_of A u v ≡ on_or_before A u (found A u)
        inner-placed = place_inside A u v (λ q. some (sym (edges-len ws) ∙ q)) e last_is

        pub is-around : Around A u (found A u)
        is-around = around A u (lies-inside A u e last_is)

-- ---- what `between` asks, of numbers as they are read back
abbrev pub Asked : ℤ → ℤ → ℤ → ℤ → ℤ → Type 0
Asked u f1 p1 f2 p2 = ((f1 <ℤ u) × (u <ℤ f2) × Short f1 × Short f2) × (Between most_pos most_pos p1 × Between most_pos most_pos p2)

pub asked : {u f1 p1 f2 p2 u' f1' p1' f2' p2' : ℤ} → u' ≡ u → f1' ≡ f1 → p1' ≡ p1 → f2' ≡ f2 → p2' ≡ p2 → Asked u f1 p1 f2 p2 → Asked u' f1' p1' f2' p2'
asked {u} {f1} {p1} {f2} {p2} a b c d e h = rw (a, b, c, d, e) h
