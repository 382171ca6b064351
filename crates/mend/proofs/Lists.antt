-- The list of alterations: how long it is, and when it is empty.
use Rattle.std.specs.Prelude.{None, Some}
use mathlib.Core.Path.{◌≡◌, refl, sym, ap, ◌∙◌}
use mathlib.Core.Bool.{Bool, true, false, cond}
use mathlib.Core.List.{List, [], ◌∷◌, ◌++◌}
use Prim.Native.Nat.{ℕ, zero, suc, ◌+◌, ◌*◌, ◌≤◌, ◌<◌}
use native.Mathlib.Omega.{arith}
use borrow.Author.Tests.{eq-eqb}
use lib.ListN.{length, length-append}
use Rattle.axis.specs.declared.edge.Edge.{Edge}
use Rattle.axis.specs.declared.edge.Axis.{Axis}
use Rattle.axis.specs.Link.{Link}
use Rattle.axis.specs.declared.segment.Segment.{Segment}
use Rattle.axis.specs.declared.segment.Segments.{Segments}
use Rattle.axis.specs.Edge.{edge_at}
use Rattle.axis.specs.Limits.{most_edges, most_segments}
use Rattle.axis.specs.Segment.{segment_at}
use Rattle.mend.specs.Altered.{Table, Field, Alteration, same_link, listed, of_segment, of_edge, in_order, alterations, most_altered}
use Rattle.mend.specs.Altered as L

-- ---- how long it is
pub listed-few : (x : Table) (i : ℕ) (f : Field) (a b : Link) → length (listed x i f a b) ≤ 1
listed-few x i f a b = by (same_link a b)
  where
    by : (t : Bool) → length {A = Alteration} (cond t [] (record { table = x; index = i; field = f; old = a; new = b } ∷ [])) ≤ 1
    by true = omega arith
    by false = omega arith

pub segment-few : (i : ℕ) (a b : Segment) → length (of_segment i a b) ≤ 3
segment-few i a b =
    let p = listed-few L.segments i L.link a.link b.link in
    let q = listed-few L.segments i L.serif a.serif b.serif in
    let r = listed-few L.segments i L.next a.next b.next in
    omega (
      arith,
      length-append (listed L.segments i L.link a.link b.link)
          (listed L.segments i L.serif a.serif b.serif ++ listed L.segments i L.next a.next b.next),
      length-append (listed L.segments i L.serif a.serif b.serif) (listed L.segments i L.next a.next b.next),
    )

pub edge_few : (k : ℕ) (a b : Edge) → length (of_edge k a b) ≤ 4
edge_few k a b =
    let p = listed-few L.edges k L.link a.link b.link in
    let q = listed-few L.edges k L.serif a.serif b.serif in
    let r = listed-few L.edges k L.first (Some a.first) (Some b.first) in
    let s = listed-few L.edges k L.last (Some a.last) (Some b.last) in
    simp length-append (omega arith)

pub segments-few : (f : ℕ → List Alteration) (n : ℕ) → ((i : ℕ) → length (f i) ≤ 3) → length (in_order f n) ≤ 3 * n
unfolding in_order
segments-few f zero h = omega arith
segments-few f (suc n) h = omega (arith, length-append (in_order f n) (f n), segments-few f n h, h n)

pub edges_few : (f : ℕ → List Alteration) (n : ℕ) → ((i : ℕ) → length (f i) ≤ 4) → length (in_order f n) ≤ 4 * n
unfolding in_order
edges_few f zero h = omega arith
edges_few f (suc n) h = omega (arith, length-append (in_order f n) (f n), edges_few f n h, h n)

-- 2,048 places are enough
pub few-altered : (axis : Axis) (t : Segments) (axis' : Axis) (t' : Segments) → t.len ≤ most_segments → axis.len ≤ most_edges
    → length (alterations axis t axis' t') ≤ most_altered
unfolding alterations
few-altered axis t axis' t' h g =
    let p = segments-few (λ (i : ℕ). of_segment i (segment_at t i) (segment_at t' i)) t.len (λ i. segment-few i (segment_at t i) (segment_at t' i)) in
    let q = edges_few (λ (k : ℕ). of_edge k (edge_at axis k) (edge_at axis' k)) axis.len (λ k. edge_few k (edge_at axis k) (edge_at axis' k)) in
    omega (
      arith,
      length-append (in_order (λ (i : ℕ). of_segment i (segment_at t i) (segment_at t' i)) t.len)
          (in_order (λ (k : ℕ). of_edge k (edge_at axis k) (edge_at axis' k)) axis.len),
    )

-- ---- when it is empty
same-link : (a : Link) → same_link a a ≡ true
same-link None = refl
same-link (Some k) = eq-eqb k k refl

listed-none : (x : Table) (i : ℕ) (f : Field) (a : Link) → listed x i f a a ≡ []
listed-none x i f a = rw (same-link a)

segment-none : (i : ℕ) (s : Segment) → of_segment i s s ≡ []
segment-none i s = rw (listed-none L.segments i L.link s.link, listed-none L.segments i L.serif s.serif, listed-none L.segments i L.next s.next)

edge_none : (k : ℕ) (e : Edge) → of_edge k e e ≡ []
edge_none k e =
    rw (
      listed-none L.edges k L.link e.link,
      listed-none L.edges k L.serif e.serif,
      listed-none L.edges k L.first (Some e.first),
      listed-none
          L.edges k L.last (Some e.last),
    )

order-none : (f : ℕ → List Alteration) (n : ℕ) → ((i : ℕ) → f i ≡ []) → in_order f n ≡ []
unfolding in_order
order-none f zero h = refl
order-none f (suc n) h = rw (order-none f n h) (h n)

-- two that are the same of each record
pub order_same : (f g : ℕ → List Alteration) (n : ℕ) → ((i : ℕ) → i < n → f i ≡ g i) → in_order f n ≡ in_order g n
unfolding in_order
order_same f g zero h = refl
order_same f g (suc n) h =
    let p = order_same f g n (λ i l. h i (omega arith)) in
    let q = h n (omega arith) in
    λ j. p j ++ q j

-- an axis that stays as it was yields nothing
pub none-altered : (axis : Axis) (t : Segments) → alterations axis t axis t ≡ []
unfolding alterations
none-altered axis t =
    rw (order-none (λ (i : ℕ). of_segment i (segment_at t i) (segment_at t i)) t.len (λ i. segment-none i (segment_at t i)))
    (order-none (λ (k : ℕ). of_edge k (edge_at axis k) (edge_at axis k)) axis.len (λ k. edge_none k (edge_at axis k)))
