-- Tables that are turned over, by their places.
use mathlib.Core.Path.{◌≡◌, sym, ap, ◌∙◌}
use mathlib.Core.List.{List, map, reverse}
use Prim.Native.Nat.{ℕ, ◌+◌, ◌-◌, ◌≤◌, ◌<◌}
use native.Mathlib.Omega.{arith}
use lib.ListN.{length, get_or, take, length-map, length-reverse, get_or-map}
use lib.Seq.{length-take-le, get_or-take}
use Rattle.axis.specs.declared.edge.Edge.{Edge}
use Rattle.axis.specs.declared.edge.Axis.{Axis}
use Rattle.axis.specs.declared.segment.Segment.{Segment}
use Rattle.axis.specs.declared.segment.Segments.{Segments}
use Rattle.axis.specs.Edge.{empty_edge, edge_at, put_edge}
use Rattle.axis.specs.Segment.{empty_segment, segment_at, put_segment}
use Rattle.turn.specs.Turning.{turned_index, turned_edge, turned_segment, turned_axis, turned_segments}
use Rattle.turn.proofs.Fronts.{get_d_reverse, front, front-more, front-all, front_at, behind-at, front_length}

-- ---- edges
-- the edges of a table that come to stand in front
abbrev edges_first : Axis → List Edge
edges_first axis = map (turned_edge axis.len) (reverse (take axis.len axis.edges))

-- the axis of which the first i places are turned over
abbrev pub edges_to : Axis → ℕ → Axis
edges_to axis i = record { dim = axis.dim; major_dir = axis.major_dir; edges = front (edges_first axis) axis.edges i; len = axis.len }

module _ (axis : Axis) (whole : axis.len ≤ length axis.edges) where
  first-length : length (edges_first axis) ≡ axis.len
  first-length =
      length-map (reverse (take axis.len axis.edges)) _ ∙ length-reverse (take axis.len axis.edges) ∙ length-take-le axis.len axis.edges whole

  first-at : (i : ℕ) → i < axis.len → get_or (edges_first axis) i empty_edge ≡ turned_edge axis.len (edge_at axis (turned_index axis.len i))
  first-at i h =
      let l = length-take-le axis.len axis.edges whole in
      get_or-map (turned_edge axis.len) (reverse (take axis.len axis.edges)) i empty_edge
      ∙ ap (turned_edge axis.len) (get_d_reverse (take axis.len axis.edges) i empty_edge (omega arith)
      ∙ ap (λ (n : ℕ). get_or (take axis.len axis.edges) (n - 1 - i) empty_edge) l
      ∙ get_or-take axis.len axis.edges (turned_index axis.len i) empty_edge (omega arith))

  -- a turn of the loop, and its end
  pub edges_more : (turned : Axis) (i : ℕ) (e : Edge) → i < axis.len → turned ≡ edges_to axis i
      → e ≡ turned_edge axis.len (edge_at axis (turned_index axis.len i))
      → put_edge turned i e ≡ edges_to axis (i + 1)
  edges_more turned i e h q p =
      ap (λ (a : Axis). put_edge a i e) q
      ∙ (λ j. record {
        dim = axis.dim;
        major_dir = axis.major_dir;
        edges = front-more (edges_first axis) axis.edges i e empty_edge (omega (arith, first-length)) (omega arith) (p ∙ sym (first-at i h)) j;
        len = axis.len;
      })

  pub edges-all : (i : ℕ) → i ≤ axis.len → axis.len ≤ i → edges_to axis i ≡ turned_axis axis
  unfolding turned_axis
  edges-all i h g =
      λ j. record {
        dim = axis.dim;
        major_dir = axis.major_dir;
        edges = front-all (edges_first axis) axis.edges axis.len i first-length h g j;
        len = axis.len;
      }

  -- the edge in a place, and behind the edges
  pub turned-edge-at : (i : ℕ) → i < axis.len → edge_at (turned_axis axis) i ≡ turned_edge axis.len (edge_at axis (turned_index axis.len i))
  unfolding turned_axis
  turned-edge-at i h = front_at (edges_first axis) axis.edges axis.len i empty_edge first-length h ∙ first-at i h

  pub behind-edges : (i : ℕ) → axis.len ≤ i → edge_at (turned_axis axis) i ≡ edge_at axis i
  unfolding turned_axis
  behind-edges i h = behind-at (edges_first axis) axis.edges axis.len i empty_edge first-length h

  -- as many places
  pub turned-edges-length : length (turned_axis axis).edges ≡ length axis.edges
  unfolding turned_axis
  turned-edges-length = front_length (edges_first axis) axis.edges axis.len first-length whole

-- ---- segments
abbrev segments_first : ℕ → Segments → List Segment
segments_first m t = map (turned_segment m) (take t.len t.segments)

abbrev pub segments_to : ℕ → Segments → ℕ → Segments
segments_to m t i = record { segments = front (segments_first m t) t.segments i; len = t.len }

module _ (m : ℕ) (t : Segments) (whole : t.len ≤ length t.segments) where
  firsts-length : length (segments_first m t) ≡ t.len
  firsts-length = length-map (take t.len t.segments) _ ∙ length-take-le t.len t.segments whole

  firsts_at : (i : ℕ) → i < t.len → get_or (segments_first m t) i empty_segment ≡ turned_segment m (segment_at t i)
  firsts_at i h =
      get_or-map (turned_segment m) (take t.len t.segments) i empty_segment ∙ ap (turned_segment m) (get_or-take t.len t.segments i empty_segment h)

  pub segments-more : (turned : Segments) (i : ℕ) (s : Segment) → i < t.len → turned ≡ segments_to m t i → s ≡ turned_segment m (segment_at t i)
      → put_segment turned i s ≡ segments_to m t (i + 1)
  segments-more turned i s h q p =
      ap (λ (u : Segments). put_segment u i s) q
      ∙ (λ j. record {
        segments = front-more (segments_first m t) t.segments i s empty_segment (omega (arith, firsts-length)) (omega arith)
            (p ∙ sym (firsts_at i h)) j;
        len = t.len;
      })

  pub segments-all : (i : ℕ) → i ≤ t.len → t.len ≤ i → segments_to m t i ≡ turned_segments m t
  unfolding turned_segments
  segments-all i h g = λ j. record { segments = front-all (segments_first m t) t.segments t.len i firsts-length h g j; len = t.len }

  -- those that are not turned over yet
  pub segments-left : (i k : ℕ) → i ≤ t.len → i ≤ k → segment_at (segments_to m t i) k ≡ segment_at t k
  segments-left i k h g =
      behind-at (take i (segments_first m t)) t.segments i k empty_segment (length-take-le i (segments_first m t) (omega (arith, firsts-length))) g

  pub turned-segment-at : (i : ℕ) → i < t.len → segment_at (turned_segments m t) i ≡ turned_segment m (segment_at t i)
  unfolding turned_segments
  turned-segment-at i h = front_at (segments_first m t) t.segments t.len i empty_segment firsts-length h ∙ firsts_at i h

  pub behind-segments : (i : ℕ) → t.len ≤ i → segment_at (turned_segments m t) i ≡ segment_at t i
  unfolding turned_segments
  behind-segments i h = behind-at (segments_first m t) t.segments t.len i empty_segment firsts-length h

  pub turned-segments-length : length (turned_segments m t).segments ≡ length t.segments
  unfolding turned_segments
  turned-segments-length = front_length (segments_first m t) t.segments t.len firsts-length whole
