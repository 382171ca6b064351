-- The visit of a segment.
use Rattle.std.specs.Prelude.{None, Some}
use mathlib.Core.Path.{◌≡◌, sym, ap, subst, ◌∙◌}
use mathlib.Core.Bool.{true, false}
use mathlib.Core.List.{List}
use Prim.Native.Nat.{ℕ, ◌<◌}
use native.Mathlib.Omega.{arith}
use lib.IntN.{ℤ}
use Rattle.axis.specs.declared.kinds.Dimension.{Dimension}
use Rattle.axis.specs.declared.segment.Segments.{Segments}
use Rattle.axis.specs.Edge.{edge_at}
use Rattle.build_properties.specs.declared.join.Join.{Join}
use Rattle.build_properties.specs.Properties.{join_at, join_by, member}
use Rattle.build_properties.specs.Steps.{EdgeBelow, Ready}
use Rattle.build_properties.proofs.Kept.{Kept, asked-below, member-kept, ready-kept, start-kept}
use Rattle.words.specs.Edge.{edges_in}
use Rattle.words.specs.Segment.{segments_in, flat_segments}
use Rattle.words_call.specs.Lent.{edges_of}
use Rattle.words_edge.specs.Whole.{Whole, axis_in, Became}
use Rattle.words_edge.proofs.Wholes.{edges-len}
use Rattle.words_edge.proofs.Became.{stays, became-as}
use Rattle.build_properties_words.specs.Reading.{Naming, join_in}
use Rattle.build_properties_words.specs.Steps.{Joined, taking_serif, taking_link}
use Rattle.build_properties_words.proofs.Readings.{segments-len, naming, join-read}

module _ (sw ws : List ℤ) (k : ℕ) (w : Whole ws) (r : Ready (edges_of ws) (flat_segments sw)) (h : k < edges_in ws) where
  abbrev t : Segments
  t = flat_segments sw

  -- the link and the serif of edge k are edges
  pub joined_in : Joined ws k
  joined_in =
      record { whole = w; inside = h; edge = subst (λ (n : ℕ). EdgeBelow n (edge_at (edges_of ws) k)) (edges-len ws) (r.edge k (omega (arith, edges-len ws))) }

  module _ (ix : ℕ) (i : ix < segments_in sw) where
    inside : ix < t.len
    inside = omega (arith, segments-len sw)

    -- it names segments
    pub named_in : Naming sw ix
    named_in = naming sw r ix inside

    -- it leaves what it was ready for
    pub member-ready : {ws' : List ℤ} → Became (member t k ix) ws ws' → Ready (edges_of ws') t
    member-ready {ws'} a =
        let A = edges_of ws in
        ready-kept A t r (edges_of ws') (subst (Kept A) (sym (a.table _)) (member-kept A t r k (omega (arith, edges-len ws)) ix A inside (start-kept A t r)))

    -- by what the segment asks for
    module _ {j : Join} (e : j ≡ join_in sw k ix) where
      asks : j ≡ join_at t k ix
      asks = e ∙ join-read sw r ix inside k

      pub asked-inside : {q : ℕ} → j.edge ≡ Some q → q < edges_in ws
      asked-inside {q} p = let b = (asked-below (edges_of ws) t r k ix inside).at q (ap (λ (x : Join). x.edge) (sym asks) ∙ p) in omega (arith, b, edges-len ws)

      by-join : {x : Join} (d : Dimension) → j ≡ x → join_by k x.is_serif x.delta x.edge (axis_in ws d) ≡ member t k ix (axis_in ws d)
      unfolding member
      by-join d p = ap (λ (x : Join). join_by k x.is_serif x.delta x.edge (axis_in ws d)) (sym p ∙ asks)

      -- nothing
      pub member-none : j.edge ≡ None → Became (member t k ix) ws ws
      unfolding join_by
      member-none p = stays (member t k ix) w (λ (d : Dimension). by-join d (λ n. record { is_serif = j.is_serif; edge = p n; delta = j.delta }))

      -- an edge, in either way
      pub member-serif : {q : ℕ} {delta : ℤ} {w1 : List ℤ} → j.edge ≡ Some q → j.is_serif ≡ true → delta ≡ j.delta
          → Became (taking_serif k delta q) ws w1 → Became (member t k ix) ws w1
      unfolding join_by
      member-serif p s v a = became-as (λ (d : Dimension). by-join d (λ n. record { is_serif = s n; edge = p n; delta = sym v n })) a

      pub member-link : {q : ℕ} {delta : ℤ} {w1 : List ℤ} → j.edge ≡ Some q → j.is_serif ≡ false → delta ≡ j.delta
          → Became (taking_link k delta q) ws w1 → Became (member t k ix) ws w1
      unfolding join_by
      member-link p s v a = became-as (λ (d : Dimension). by-join d (λ n. record { is_serif = s n; edge = p n; delta = sym v n })) a
