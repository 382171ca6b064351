-- The turns of the pass over the edges.
use mathlib.Core.Path.{◌≡◌, refl, sym, ap, subst, ◌∙◌}
use mathlib.Core.List.{List}
use Prim.Native.Nat.{ℕ, ◌+◌, ◌≤◌, ◌<◌}
use native.Mathlib.Omega.{arith}
use lib.IntN.{ℤ}
use Rattle.axis.specs.declared.kinds.Dimension.{Dimension}
use Rattle.axis.specs.declared.segment.Segments.{Segments}
use Rattle.axis.specs.Ring.{members}
use Rattle.build_properties.specs.Properties.{visit, edges, edge_properties}
use Rattle.build_properties.specs.Steps.{Ready}
use Rattle.build_properties.proofs.Kept.{Kept, edges-kept, ready-kept}
use Rattle.build_properties.proofs.Turns.{edges_none, edges_more}
use Rattle.words.specs.Edge.{axis_run, flat_axis, edges_in}
use Rattle.words_call.specs.Lent.{edges_of}
use Rattle.words_edge.specs.Whole.{Whole, axis_in, Became}
use Rattle.words_edge.proofs.Wholes.{len-in, edges-len}
use Rattle.words_edge.proofs.Became.{stays, became-as, below_in}
use Rattle.build_properties_words.specs.Steps.{properties_of}

members-same : (ws : List ℤ) (t : Segments) (k : ℕ) (d : Dimension) → members (edges_of ws) t k ≡ members (axis_in ws d) t k
unfolding flat_axis axis_run
members-same ws t k d = refl

module _ (t : Segments) (ws₀ : List ℤ) where
  pub pass-starts : Whole ws₀ → Became (edges t 0) ws₀ ws₀
  pass-starts w = stays (edges t 0) w (λ (d : Dimension). edges_none t (axis_in ws₀ d))

  module _ (k : ℕ) {ws : List ℤ} (a : Became (edges t k) ws₀ ws) where
    -- the next edge can be visited
    pub pass-ready : Ready (edges_of ws₀) t → k < edges_in ws₀ → Whole ws × Ready (edges_of ws) t × (k < edges_in ws)
    pass-ready r h =
        let A = edges_of ws₀ in
        (a.whole, ready-kept A t r (edges_of ws) (subst (Kept A) (sym (a.table _)) (edges-kept A t r k (omega (arith, edges-len ws₀)))), below_in k a h)

    pub pass-next : {ws' : List ℤ} → Became (visit t k (members (edges_of ws) t k)) ws ws' → Became (edges t (k + 1)) ws₀ ws'
    pass-next {ws'} b = record {
      whole = b.whole;
      long = b.long ∙ a.long;
      table = λ (d : Dimension).
          edges_more t k (axis_in ws₀ d) (axis_in ws d) (axis_in ws' d) (a.table d) (b.table d ∙ ap (λ ms. visit t k ms (axis_in ws d)) (members-same ws t k d));
    }

    -- all of them are
    pub pass-ends : k ≤ edges_in ws₀ → edges_in ws₀ ≤ k → Became (properties_of t) ws₀ ws
    unfolding edge_properties
    pass-ends g h =
        let e : k ≡ edges_in ws₀ = omega arith in
        became-as (λ (d : Dimension). ap (λ (n : ℕ). edges t n (axis_in ws₀ d)) (e ∙ sym (len-in ws₀ d))) a
