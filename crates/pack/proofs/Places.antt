-- The packed tables by their places.
use mathlib.Core.Path.{◌≡◌, refl, ap, ◌∙◌}
use mathlib.Core.Bool.{true}
use mathlib.Core.List.{List, ◌++◌, map}
use Prim.Native.Nat.{ℕ, ◌+◌, ◌-◌, ◌≤◌, ◌<◌}
use native.Mathlib.Omega.{arith}
use lib.ListN.{length, get_or, take, drop, replicate, length-append, length-map, length-drop, length-replicate, get_or-replicate, get_or-append}
use lib.Seq.{length-take-le, get_or-take, get_or-append-add, get_or-drop}
use Rattle.axis.specs.declared.edge.Edge.{Edge}
use Rattle.axis.specs.declared.edge.Axis.{Axis}
use Rattle.axis.specs.declared.segment.Segment.{Segment}
use Rattle.axis.specs.declared.segment.Segments.{Segments}
use Rattle.axis.specs.Edge.{empty_edge, edge_at}
use Rattle.axis.specs.Segment.{empty_segment, segment_at}
use Rattle.mend.proofs.Sums.{count-few}
use Rattle.mend.specs.Following.{count}
use Rattle.pack.specs.Sets.{chosen}
use Rattle.pack.proofs.Counts.{count-rises}
use Rattle.pack.specs.Kept.{kept, new_index}
use Rattle.pack.specs.Packed.{packed_segment, packed_edge, kept_count, packed_segments, packed_axis}
use Rattle.pack.proofs.Choices.{map_at, chosen-length, chosen_at}

-- a place behind the front of a list
behind : {A : Type 0} (xs ys : List A) (i : ℕ) (d : A) → length xs ≤ i → get_or (xs ++ ys) i d ≡ get_or ys (i - length xs) d
behind {A} xs ys i d h =
    let q : i ≡ length xs + (i - length xs) = omega arith in
    ap (λ (k : ℕ). get_or (xs ++ ys) k d) q ∙ get_or-append-add xs ys (i - length xs) d

-- ---- segments
module _ (t : Segments) where
  abbrev firsts : List Segment
  firsts = map (λ (k : ℕ). packed_segment (new_index t) (segment_at t k)) (chosen (kept t) t.len)

  abbrev freed : List Segment
  freed = replicate (t.len - kept_count t) empty_segment

  firsts-length : length firsts ≡ kept_count t
  firsts-length = length-map (chosen (kept t) t.len) _ ∙ chosen-length (kept t) t.len

  freed-length : length freed ≡ t.len - kept_count t
  freed-length = length-replicate (t.len - kept_count t) empty_segment

  pub kept-few : kept_count t ≤ t.len
  kept-few = count-few (kept t) t.len

  -- the new index of a kept segment is one of the new segments
  pub new-below : (k : ℕ) → k < t.len → kept t k ≡ true → new_index t k < kept_count t
  new-below k h e = count-rises (kept t) k t.len e h

  -- a kept segment stands in its new place
  pub packed-at : (k : ℕ) → k < t.len → kept t k ≡ true → segment_at (packed_segments t) (new_index t k) ≡ packed_segment (new_index t) (segment_at t k)
  unfolding packed_segments
  packed-at k h e =
      get_or-append firsts (freed ++ drop t.len t.segments) empty_segment (new_index t k) (omega (arith, firsts-length, new-below k h e))
      ∙ map_at (λ (k : ℕ). packed_segment (new_index t) (segment_at t k)) (chosen (kept t) t.len) (new_index t k) empty_segment 0
      (omega (arith, chosen-length (kept t) t.len, new-below k h e))
      ∙ ap (λ (i : ℕ). packed_segment (new_index t) (segment_at t i)) (chosen_at (kept t) t.len k 0 h e)

  -- the places that are freed are empty
  pub freed-at : (i : ℕ) → kept_count t ≤ i → i < t.len → segment_at (packed_segments t) i ≡ empty_segment
  unfolding packed_segments
  freed-at i h g =
      behind firsts (freed ++ drop t.len t.segments) i empty_segment (omega (arith, firsts-length))
      ∙ get_or-append freed (drop t.len t.segments) empty_segment (i - length firsts) (omega (arith, firsts-length, freed-length))
      ∙ get_or-replicate (t.len - kept_count t) (i - length firsts) empty_segment empty_segment (omega (arith, firsts-length))

  -- and those behind the old count are as they were
  pub left_at : (i : ℕ) → t.len ≤ i → segment_at (packed_segments t) i ≡ segment_at t i
  unfolding packed_segments
  left_at i h =
      let r : t.len + (i - length firsts - length freed) ≡ i = omega (arith, firsts-length, freed-length, kept-few) in
      behind firsts (freed ++ drop t.len t.segments) i empty_segment (omega (arith, firsts-length, kept-few))
      ∙ behind freed (drop t.len t.segments) (i - length firsts) empty_segment (omega (arith, firsts-length, freed-length))
      ∙ get_or-drop t.len t.segments (i - length firsts - length freed) empty_segment
      ∙ ap (λ (k : ℕ). get_or t.segments k empty_segment) r

  -- as many places
  pub packed-length : t.len ≤ length t.segments → length (packed_segments t).segments ≡ length t.segments
  unfolding packed_segments
  packed-length whole =
      length-append firsts (freed ++ drop t.len t.segments)
      ∙ omega (arith, firsts-length, freed-length, kept-few, length-append freed (drop t.len t.segments), length-drop t.len t.segments)

  pub packed-len : (packed_segments t).len ≡ kept_count t
  unfolding packed_segments
  packed-len = refl

-- ---- edges
module _ (t : Segments) (axis : Axis) (whole : axis.len ≤ length axis.edges) where
  abbrev edges : List Edge
  edges = map (packed_edge (new_index t)) (take axis.len axis.edges)

  edges-length : length edges ≡ axis.len
  edges-length = length-map (take axis.len axis.edges) _ ∙ length-take-le axis.len axis.edges whole

  pub packed-edge-at : (k : ℕ) → k < axis.len → edge_at (packed_axis t axis) k ≡ packed_edge (new_index t) (edge_at axis k)
  unfolding packed_axis
  packed-edge-at k h =
      get_or-append edges (drop axis.len axis.edges) empty_edge k (omega (arith, edges-length))
      ∙ map_at (packed_edge (new_index t)) (take axis.len axis.edges) k empty_edge empty_edge (omega (arith, length-take-le axis.len axis.edges whole))
      ∙ ap (packed_edge (new_index t)) (get_or-take axis.len axis.edges k empty_edge h)

  pub left-edge-at : (k : ℕ) → axis.len ≤ k → edge_at (packed_axis t axis) k ≡ edge_at axis k
  unfolding packed_axis
  left-edge-at k h =
      let r : axis.len + (k - length edges) ≡ k = omega (arith, edges-length) in
      behind edges (drop axis.len axis.edges) k empty_edge (omega (arith, edges-length))
      ∙ get_or-drop axis.len axis.edges (k - length edges) empty_edge
      ∙ ap (λ (i : ℕ). get_or axis.edges i empty_edge) r

  pub packed-edges-length : length (packed_axis t axis).edges ≡ length axis.edges
  unfolding packed_axis
  packed-edges-length = length-append edges (drop axis.len axis.edges) ∙ omega (arith, edges-length, length-drop axis.len axis.edges, whole)
