-- One segment's visit as the code makes it, and the visits of a ring in their order.
use Rattle.std.specs.Prelude.{None, Some}
use mathlib.Core.Path.{◌≡◌, refl, ap, ◌∙◌}
use mathlib.Core.Bool.{Bool, true, false, cond, not}
use mathlib.Core.List.{List, [], ◌∷◌}
use Prim.Native.Nat.{ℕ, zero, suc, ◌+◌, ◌<◌, ◌≤◌}
use native.Mathlib.Omega.{arith}
use native.Mathlib.Numerals.{add-one}
use lib.Dec.{eqb}
use lib.IntN.{ℤ, pos}
use lib.ListN.{length, get_or, set}
use lib.Signed.{lt_z}
use Rattle.signed.specs.Distance.{distance}
use Rattle.axis.specs.Link.{Link}
use Rattle.axis.specs.declared.edge.Axis.{Axis}
use Rattle.axis.specs.declared.edge.Edge.{Edge}
use Rattle.axis.specs.declared.segment.Segment.{Segment}
use Rattle.axis.specs.declared.segment.Segments.{Segments}
use Rattle.axis.specs.Edge.{empty_edge, edge_at, put_edge}
use Rattle.axis.specs.Limits.{most_segments}
use Rattle.axis.specs.Link.{index_or}
use Rattle.axis.specs.Ring.{next_of, walk, ends, members, Walked}
use Rattle.axis.specs.Segment.{segment_at}
use Rattle.axis.proofs.Rings.{walk_at, walk-passes, shorter, length-walk}
use Rattle.build_properties.specs.declared.join.Join.{Join}
use Rattle.build_properties.specs.Properties.{
  named_edge,
  is_other,
  join_of,
  join_at,
  chosen,
  join_by,
  member,
  visits,
  roundness,
  straightness,
  with_properties,
  visit,
  edges,
}
use Rattle.build_properties.specs.Outcomes.{held_by, nearer, joined_by, flagged_by}

-- ---- a place that is written with what it holds
set_own : {A : Type 0} (l : List A) (i : ℕ) (d : A) → set l i (get_or l i d) ≡ l
set_own [] i d = refl
set_own (x ∷ l) zero d = refl
set_own (x ∷ l) (suc i) d = ap (λ (r : List _). x ∷ r) (set_own l i d)

put-own : (axis : Axis) (i : ℕ) → put_edge axis i (edge_at axis i) ≡ axis
put-own axis i = rw (set_own axis.edges i empty_edge)

-- ---- what a segment asks for
-- where it is for a serif's edge, there is one
serif-asks : (k : ℕ) (s serif link : Segment) → (join_of k s serif link).is_serif ≡ true → (join_of k s serif link).edge ≡ None → ⊥
unfolding join_of
serif-asks k s serif link h e = by-edge (named_edge s.serif serif) (pos (distance s.pos serif.pos))
    (record { is_serif = false; edge = named_edge s.link link; delta = pos (distance s.pos link.pos) }) refl h e
  where
    by-test : (b : Bool) (q : ℕ) (x : ℤ) (j : Join) → j.is_serif ≡ false → (cond {A =
        Join} b (record { is_serif = true; edge = Some q; delta = x }) j).is_serif ≡ true
        → (cond {A = Join} b (record { is_serif = true; edge = Some q; delta = x }) j).edge ≡ None → ⊥
    by-test true q x j f h e = let z : ◌≡◌ {A = ℕ} 0 1 = cc in omega arith
    by-test false q x j f h e = let z : ◌≡◌ {A = ℕ} 0 1 = cc in omega arith

    by-edge : (l : Link) (x : ℤ) (j : Join) → j.is_serif ≡ false → (cond {A =
        Join} (is_other k l) (record { is_serif = true; edge = l; delta = x }) j).is_serif ≡ true
        → (cond {A = Join} (is_other k l) (record { is_serif = true; edge = l; delta = x }) j).edge ≡ None → ⊥
    by-edge None x j f h e = let z : ◌≡◌ {A = ℕ} 0 1 = cc in omega arith
    by-edge (Some q) x j f h e = by-test (not (eqb q k)) q x j f h e

-- ---- one visit, from what the code computes
module _ (axis : Axis) (k : ℕ) where
  -- edge k joined, and the edge that it then has flagged
  abbrev joined_edge : Join → Edge
  joined_edge j = joined_by (edge_at axis k) (edge_at axis (index_or k (held_by j.is_serif (edge_at axis k)))) j

  abbrev written : Join → Edge → Axis
  written j e =
      put_edge (put_edge axis k e) (index_or k (held_by j.is_serif e))
      (flagged_by j.is_serif (edge_at (put_edge axis k e) (index_or k (held_by j.is_serif e))))

  cond-to : (b : Bool) (q o : ℕ) → cond b (Some q) (Some o) ≡ Some (cond b q o)
  cond-to true q o = refl
  cond-to false q o = refl

  nearer-is : (e : Edge) (delta : ℤ) (q : ℕ) (held : Link) → nearer e (edge_at axis (index_or k held)) delta (Some q) held
      ≡ Some (chosen axis e delta q held)
  unfolding nearer chosen
  nearer-is e delta q None = refl
  nearer-is e delta q (Some o) = cond-to (lt_z delta (pos (distance e.fpos (edge_at axis o).fpos))) q o

  nearer-none : (e e2 : Edge) (delta : ℤ) (held : Link) → nearer e e2 delta None held ≡ held
  unfolding nearer
  nearer-none e e2 delta held = refl

  written_is : (b : Bool) (delta : ℤ) (l : Link) → (b ≡ true → l ≡ None → ⊥)
      → written (record { is_serif = b; edge = l; delta = delta }) (joined_edge (record { is_serif = b; edge = l; delta = delta })) ≡ join_by k b delta l axis
  unfolding join_by joined_by
  written_is true delta None h = absurd (h refl refl)
  written_is false delta None h =
      rw (nearer-none (edge_at axis k) (edge_at axis (index_or k (edge_at axis k).link)) delta (edge_at axis k).link)
      (put-own (put_edge axis k (edge_at axis k)) (index_or k (edge_at axis k).link) ∙ put-own axis k)
  written_is true delta (Some q) h = rw (nearer-is (edge_at axis k) delta q (edge_at axis k).serif)
  written_is false delta (Some q) h = rw (nearer-is (edge_at axis k) delta q (edge_at axis k).link) (put-own _ _)

-- the same by the results of the code's calls
pub member_is : (t : Segments) (axis : Axis) (k ix at1 at2 held w : ℕ) (j : Join) (e g : Edge) → at1 ≡ index_or ix (segment_at t ix).serif
    → at2 ≡ index_or ix (segment_at t ix).link
    → j ≡ join_of k (segment_at t ix) (segment_at t at1) (segment_at t at2) → held ≡ index_or k (held_by j.is_serif (edge_at axis k))
    → e ≡ joined_by (edge_at axis k) (edge_at axis held) j
    → w ≡ index_or k (held_by j.is_serif e) → g ≡ flagged_by j.is_serif (edge_at (put_edge axis k e) w)
    → put_edge (put_edge axis k e) w g ≡ member t k ix axis
unfolding member join_at
member_is t axis k ix at1 at2 held w j e g p1 p2 p3 p4 p5 p6 p7 =
    let s = segment_at t ix in
    let q : j ≡ join_of k s (segment_at t (index_or ix s.serif)) (segment_at t (index_or ix s.link)) = rw (p1, p2) at p3 in
    let a = written_is axis k j.is_serif j.delta j.edge
    (rw q (serif-asks k s (segment_at t (index_or ix s.serif)) (segment_at t (index_or ix s.link)))) in
    rw (p7, p6, p5, p4) (a ∙ ap (λ (x : Join). join_by k x.is_serif x.delta x.edge axis) q)

-- ---- the visits of a ring
-- on the way from the first segment, with the table axis₀, to the last: the table, the place and the two counts so far
pub record Along (t : Segments) (k last first : ℕ) (axis₀ axis : Axis) (ix round straight : ℕ) : Type 0 where
  pub inside : ix < t.len
  pub stops : ends (next_of t last) t.len last most_segments ix ≡ true
  pub short : round + straight + length (walk (next_of t last) last most_segments ix) ≤ most_segments + 1
  pub visited : visits t k (walk (next_of t last) last most_segments ix) axis ≡ visits t k (walk (next_of t last) last most_segments first) axis₀
  pub rounds : round + roundness t (walk (next_of t last) last most_segments ix) ≡ roundness t (walk (next_of t last) last most_segments first)
  pub straights : straight + straightness t (walk (next_of t last) last most_segments ix) ≡ straightness t (walk (next_of t last) last most_segments first)

pub along-start : (t : Segments) (k last first : ℕ) (axis : Axis) → Walked t first last → Along t k last first axis axis first 0 0
along-start t k last first axis r =
    record {
      inside = r.starts;
      stops = r.stops;
      short = omega (arith, length-walk (next_of t last) last most_segments first);
      visited = refl;
      rounds = omega
          arith;
      straights = omega arith;
    }

-- a segment counted, as round or as straight
pub record Counted (t : Segments) (ix r s r' s' : ℕ) : Type 0 where
  pub round : r' ≡ r + cond (segment_at t ix).flags.round 1 0
  pub straight : s' ≡ s + cond (segment_at t ix).flags.round 0 1

one : (b : Bool) → cond b 1 0 + cond b 0 1 ≡ 1
one true = omega arith
one false = omega arith

counted-one : (t : Segments) (ix r s r' s' : ℕ) → Counted t ix r s r' s' → r' + s' ≡ r + s + 1
counted-one t ix r s r' s' c = omega (arith, c.round, c.straight, one (segment_at t ix).flags.round)

module _ (t : Segments) (k last first : ℕ) (axis₀ axis : Axis) (ix r s : ℕ) (a : Along t k last first axis₀ axis ix r s)
    (axis' : Axis) (r' s' : ℕ) (m : axis' ≡ member t k ix axis) (c : Counted t ix r s r' s') where
  -- to the segment behind
  pub along-more : (ix ≡ last → ⊥) → Along t k last first axis₀ axis' (next_of t last ix) r' s'
  unfolding visits roundness straightness
  along-more h =
      let p = walk-passes (next_of t last) t.len last most_segments ix h a.stops in
      record {
        inside = p.below;
        stops = p.on;
        short = omega (arith, shorter (next_of t last) t.len last most_segments ix p, counted-one t ix r s r' s' c, a.short);
        visited = rw m (rw p.step at a.visited);
        rounds = omega (arith, c.round, ap (roundness t) p.step, a.rounds);
        straights = omega (arith, c.straight, ap (straightness t) p.step, a.straights);
      }

  -- at the last
  pub along-end : (e : Edge) → ix ≡ last → e ≡ with_properties r' s' (edge_at axis' k)
      → put_edge axis' k e ≡ visit t k (walk (next_of t last) last most_segments first) axis₀
  unfolding visit visits roundness straightness
  along-end e h q =
      let w = walk_at (next_of t last) last most_segments ix h in
      let x : axis' ≡ visits t k (walk (next_of t last) last most_segments first) axis₀ = m ∙ (rw w at a.visited) in
      let y : r' ≡ roundness t (walk (next_of t last) last most_segments first) = omega (arith, c.round, ap (roundness t) w, a.rounds) in
      let z : s' ≡ straightness t (walk (next_of t last) last most_segments first) = omega (arith, c.straight, ap (straightness t) w, a.straights) in
      rw (q, x, y, z)

-- ---- the edges
pub edges_none : (t : Segments) (axis : Axis) → axis ≡ edges t 0 axis
unfolding edges
edges_none t axis = refl

pub edges_more : (t : Segments) (k : ℕ) (axis u v : Axis) → u ≡ edges t k axis → v ≡ visit t k (members u t k) u → v ≡ edges t (k + 1) axis
unfolding edges
edges_more t k axis u v p q = rw add-one (q ∙ ap (λ (x : Axis). visit t k (members x t k) x) p)
