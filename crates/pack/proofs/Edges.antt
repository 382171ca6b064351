-- The edges of an axis renumbered one after the other.
use mathlib.Core.Path.{◌≡◌, refl, sym, ap, ◌∙◌}
use mathlib.Core.List.{List, [], ◌∷◌, ◌++◌, map}
use Prim.Native.Nat.{ℕ, suc, ◌+◌, ◌≤◌, ◌<◌}
use native.Mathlib.Omega.{arith}
use lib.ListN.{length, get_or, take, drop, length-map}
use lib.Seq.{length-take-le, get_or-take}
use Rattle.axis.specs.declared.edge.Edge.{Edge}
use Rattle.axis.specs.declared.edge.Axis.{Axis}
use Rattle.axis.specs.declared.segment.Segments.{Segments}
use Rattle.axis.specs.Edge.{empty_edge, edge_at, put_edge}
use Rattle.turn.proofs.Fronts.{front, front-more, front-all, behind-at}
use Rattle.pack.specs.Kept.{new_index}
use Rattle.pack.proofs.Stages.{edge_same}
use Rattle.pack.specs.Packed.{packed_edge, renumbered, packed_axis, Renumbers, EdgesHold}
use Rattle.pack.proofs.Choices.{map_at}

abbrev firsts_by : (ℕ → ℕ) → Axis → List Edge
firsts_by new axis = map (packed_edge new) (take axis.len axis.edges)

-- the axis of which the first i edges are renumbered
abbrev pub edges_to : (ℕ → ℕ) → Axis → ℕ → Axis
edges_to new axis i = record { dim = axis.dim; major_dir = axis.major_dir; edges = front (firsts_by new axis) axis.edges i; len = axis.len }

module _ (new : ℕ → ℕ) (axis : Axis) (whole : axis.len ≤ length axis.edges) where
  abbrev firsts : List Edge
  firsts = firsts_by new axis

  firsts-length : length firsts ≡ axis.len
  firsts-length = length-map (take axis.len axis.edges) _ ∙ length-take-le axis.len axis.edges whole

  pub edges_more : (packed : Axis) (i : ℕ) (e : Edge) → i < axis.len → packed ≡ edges_to new axis i → e ≡ packed_edge new (edge_at axis i)
      → put_edge packed i e ≡ edges_to new axis (i + 1)
  edges_more packed i e h q p =
      let here = map_at (packed_edge new) (take axis.len axis.edges) i empty_edge empty_edge (omega (arith, length-take-le axis.len axis.edges whole))
      ∙ ap (packed_edge new) (get_or-take axis.len axis.edges i empty_edge h) in
      ap (λ (a : Axis). put_edge a i e) q
      ∙ (λ j. record {
        dim = axis.dim;
        major_dir = axis.major_dir;
        edges = front-more firsts axis.edges i e empty_edge (omega (arith, firsts-length)) (omega arith) (p ∙ sym here) j;
        len = axis.len;
      })

  pub edges-left : (i : ℕ) → i ≤ axis.len → edge_at (edges_to new axis i) i ≡ edge_at axis i
  edges-left i h = behind-at (take i firsts) axis.edges i i empty_edge (length-take-le i firsts (omega (arith, firsts-length))) (omega arith)

  pub edges-all : (i : ℕ) → i ≤ axis.len → axis.len ≤ i → edges_to new axis i ≡ renumbered new axis
  edges-all i h g =
      λ j. record {
        dim = axis.dim;
        major_dir = axis.major_dir;
        edges = front-all firsts axis.edges axis.len i firsts-length h g j;
        len = axis.len;
      }

-- ---- the same renumbering
map_same : {A B : Type 0} (f g : A → B) (d : A) (l : List A) → ((i : ℕ) → i < length l → f (get_or l i d) ≡ g (get_or l i d)) → map f l ≡ map g l
map_same f g d [] h = refl
map_same f g d (x ∷ l) h =
    let p = h 0 (omega arith) in
    let q = map_same f g d l (λ i k. h (suc i) (omega arith)) in
    λ j. p j ∷ q j

pub edges-packed : (t : Segments) (axis : Axis) (new : List ℕ) → axis.len ≤ length axis.edges → EdgesHold axis t.len → Renumbers t new
    → renumbered (λ (k : ℕ). get_or new k 0) axis ≡ packed_axis t axis
unfolding packed_axis
edges-packed t axis new whole e r =
    let long = length-take-le axis.len axis.edges whole in
    let p = map_same (packed_edge (λ (k : ℕ). get_or new k 0)) (packed_edge (new_index t)) empty_edge (take axis.len axis.edges)
    (λ i h. each i (omega (arith, long))) in
    λ j. record { dim = axis.dim; major_dir = axis.major_dir; edges = p j ++ drop axis.len axis.edges; len = axis.len }
  where
    each : (i : ℕ) → i < axis.len → packed_edge (λ (k : ℕ). get_or new k 0) (get_or (take axis.len axis.edges) i empty_edge)
        ≡ packed_edge (new_index t) (get_or (take axis.len axis.edges) i empty_edge)
    each i h =
        ap (packed_edge (λ (k : ℕ). get_or new k 0)) (get_or-take axis.len axis.edges i empty_edge h)
        ∙ edge_same (λ (k : ℕ). get_or new k 0) (new_index t) t.len r.at (edge_at axis i) (e.first i h) (e.last i h)
        ∙ ap (packed_edge (new_index t)) (sym (get_or-take axis.len axis.edges i empty_edge h))
