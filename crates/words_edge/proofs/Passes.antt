-- The turns of a pass over the edges of a list of words: what holds before each visit, and that a visit keeps it. What a visit needs of the edges and the
-- values is `Kept`, by the edge's place.
use mathlib.Core.Path.{◌≡◌, refl, sym, ap, ◌∙◌}
use mathlib.Core.List.{List}
use Prim.Native.Nat.{ℕ, ◌+◌, ◌-◌, ◌≤◌, ◌<◌}
use native.Mathlib.Nat.{sub-zero}
use native.Mathlib.Omega.{arith}
use lib.ListN.{length}
use lib.IntN.{ℤ}
use Rattle.axis.specs.declared.kinds.Dimension.{Dimension}
use Rattle.axis.specs.declared.edge.Axis.{Axis}
use Rattle.axis.specs.Limits.{most_edges}
use Rattle.axis.specs.Visits.{visits}
use Rattle.axis.proofs.Visits.{turn, visits-end}
use Rattle.words.specs.Edge.{edges_in}
use Rattle.words_call.specs.Lent.{edges_of}
use Rattle.words_edge.specs.Whole.{Whole, axis_in}
use Rattle.words_edge.specs.Pass.{Visited}
use Rattle.words_edge.proofs.Wholes.{len-in}
use Rattle.words_edge.proofs.Became.{as_many}

module _ {R S : Type 0} (of : Axis → R → S) (visit : S → ℕ → S) (Kept : ℕ → Axis → R → Type 0) where
  -- the first i of n edges are visited: what is left to do gives the whole pass's result, whatever the dimension
  pub record Passing (n : ℕ) (ws₀ : List ℤ) (v₀ : R) (ws : List ℤ) (v : R) (i : ℕ) : Type 0 where
    pub reached : i ≤ n
    pub few : n ≤ most_edges
    pub count : edges_in ws ≡ n
    pub long : length ws ≡ length ws₀
    pub whole : Whole ws
    pub kept : Kept i (edges_of ws) v
    pub left : (d : Dimension) → visits visit (n - i) i (of (axis_in ws d) v) ≡ visits visit n 0 (of (axis_in ws₀ d) v₀)

  module _ {n : ℕ} {ws₀ : List ℤ} {v₀ : R} where
    pub pass-starts : Whole ws₀ → n ≡ edges_in ws₀ → Kept 0 (edges_of ws₀) v₀ → Passing n ws₀ v₀ ws₀ v₀ 0
    pass-starts w e k = record {
      reached = omega arith;
      few = omega (arith, e, w.few);
      count = sym e;
      long = refl;
      whole = w;
      kept = k;
      left = λ (d : Dimension). simp sub-zero;
    }

    module _ {ws : List ℤ} {v : R} {i : ℕ} (p : Passing n ws₀ v₀ ws v i) where
      pub pass-next : {ws' : List ℤ} {v' : R} → i < n → Visited of visit i v v' ws ws' → Kept (i + 1) (edges_of ws') v' → Passing n ws₀ v₀ ws' v' (i + 1)
      pass-next {ws'} {v'} h s k = record {
        reached = omega arith;
        few = p.few;
        count = as_many ws ws' s.long ∙ p.count;
        long = s.long ∙ p.long;
        whole = s.whole;
        kept = k;
        left = λ (d : Dimension). turn visit n i _ _ _ h (s.state d) (p.left d);
      }

      pub pass-ends : n ≤ i → (d : Dimension) → of (axis_in ws d) v ≡ visits visit (axis_in ws₀ d).len 0 (of (axis_in ws₀ d) v₀)
      pass-ends h d =
          sym (visits-end visit n i _ h) ∙ p.left d
          ∙ ap (λ (k : ℕ). visits visit k 0 (of (axis_in ws₀ d) v₀)) (sym p.count ∙ as_many ws₀ ws p.long ∙ sym (len-in ws₀ d))
