-- Edges of which a step has changed positions, flags, marks and zones alone: what is still known of them.
use Rattle.std.specs.Prelude.{None, Some}
use mathlib.Core.Path.{◌≡◌, refl, sym, ap, ◌∙◌}
use mathlib.Core.Bool.{Bool, true, false, ◌&&◌}
use mathlib.Core.Logic.{◌⊎◌, inl, inr, ⊎_elim}
use Prim.Native.Nat.{ℕ, zero, suc, ◌<◌, min}
use native.Mathlib.Omega.{arith}
use lib.Dec.{leb, ltb}
use Rattle.refusals.proofs.Tests.{and_first, and_second}
use Rattle.axis.specs.Link.{Blue}
use Rattle.axis.specs.declared.edge.Edge.{Edge}
use Rattle.axis.specs.declared.edge.Axis.{Axis}
use Rattle.axis.specs.Changes.{Extent, nothing, position, place, zone, zone_left, Only, OnlyAxis}
use Rattle.axis.specs.Edge.{edge_at}
use Rattle.axis.specs.Handed.{EdgesAccepted}
use Rattle.axis.specs.Limits.{most_edges, most_units, most_pos}
use Rattle.axis.specs.Refusals.{within, link_holds, blue_holds, every, edge_indices, edge_numbers, edge_segments, edges_indices, edges_numbers}
use Rattle.axis.proofs.Accepting.{every_holds}
use Rattle.axis.proofs.Tests.{every-at}
use Rattle.turn.specs.Indices.{edges_segments}
use Rattle.fit_edges_words.specs.Row.{pos_holds, others_hold, positions_hold, Loose, KinEdge, Kin}

-- ---- tests of every place
-- two that agree below n
pub every-below : (p q : ℕ → Bool) (n : ℕ) → ((i : ℕ) → i < n → p i ≡ q i) → every p n ≡ every q n
unfolding every
every-below p q zero h = refl
every-below p q (suc n) h = λ k. every-below p q n (λ i l. h i (omega (arith, l))) k && h n (omega arith) k

-- ---- one edge
kin-self : (e : Edge) → KinEdge e e
kin-self e = record { opos = refl; link = refl; serif = refl; first = refl; last = refl; blue = inl refl }

-- a zone that is not gone is the old one
zone-kin : (old new : Blue) → new ≡ zone_left old new → (new ≡ old) ⊎ (new ≡ None)
zone-kin old None e = inr refl
zone-kin old (Some z) e = inl e

-- by how much of it may be changed
only-kin : (x : Extent) (a b : Edge) → Only x a b → KinEdge a b
only-kin nothing a b p = record {
  opos = ap (λ (e : Edge). e.opos) p.rest;
  link = ap (λ (e : Edge). e.link) p.rest;
  serif = ap (λ (e : Edge). e.serif) p.rest;
  first = ap (λ (e : Edge). e.first) p.rest;
  last = ap (λ (e : Edge). e.last) p.rest;
  blue = inl (ap (λ (e : Edge). e.blue) p.rest);
}
only-kin (position ms) a b p = record {
  opos = ap (λ (e : Edge). e.opos) p.rest;
  link = ap (λ (e : Edge). e.link) p.rest;
  serif = ap (λ (e : Edge). e.serif) p.rest;
  first = ap (λ (e : Edge). e.first) p.rest;
  last = ap (λ (e : Edge). e.last) p.rest;
  blue = inl (ap (λ (e : Edge). e.blue) p.rest);
}
only-kin (place ms) a b p = record {
  opos = ap (λ (e : Edge). e.opos) p.rest;
  link = ap (λ (e : Edge). e.link) p.rest;
  serif = ap (λ (e : Edge). e.serif) p.rest;
  first = ap (λ (e : Edge). e.first) p.rest;
  last = ap (λ (e : Edge). e.last) p.rest;
  blue = inl (ap (λ (e : Edge). e.blue) p.rest);
}
only-kin (zone ms) a b p = record {
  opos = ap (λ (e : Edge). e.opos) p.rest;
  link = ap (λ (e : Edge). e.link) p.rest;
  serif = ap (λ (e : Edge). e.serif) p.rest;
  first = ap (λ (e : Edge). e.first) p.rest;
  last = ap (λ (e : Edge). e.last) p.rest;
  blue = zone-kin a.blue b.blue (ap (λ (e : Edge). e.blue) p.rest);
}

then-kin-edge : {a b c : Edge} → KinEdge a b → KinEdge b c → KinEdge a c
then-kin-edge p q = record {
  opos = q.opos ∙ p.opos;
  link = q.link ∙ p.link;
  serif = q.serif ∙ p.serif;
  first = q.first ∙ p.first;
  last = q.last ∙ p.last;
  blue = ⊎_elim (λ e. ⊎_elim (λ f. inl (e ∙ f)) (λ f. inr (e ∙ f)) p.blue) (λ e. inr e) q.blue;
}

-- ---- an axis
pub kin-stays : (axis : Axis) → Kin axis axis
kin-stays axis = record { len = refl; edge = λ i. kin-self (edge_at axis i) }

pub then-kin : {a b c : Axis} → Kin a b → Kin b c → Kin a c
then-kin p q = record { len = q.len ∙ p.len; edge = λ i. then-kin-edge (p.edge i) (q.edge i) }

pub kin-only : {extent : ℕ → Extent} {old new : Axis} → OnlyAxis extent old new → Kin old new
kin-only {extent} {old} {new} h = record { len = h.len; edge = λ i. only-kin (extent i) (edge_at old i) (edge_at new i) (h.edges.edge i) }

-- ---- tests that still hold
and-true : (x : Bool) → (x && true) ≡ x
and-true true = refl
and-true false = refl

module _ {old new : Axis} (k : Kin old new) where
  -- those of first and last
  pub kin-segments : (n : ℕ) → edges_segments n new ≡ edges_segments n old
  unfolding edges_segments edge_segments
  kin-segments n =
      every-below _ (λ (i : ℕ). edge_segments n (edge_at old i)) (min new.len most_edges) (λ i h j. ltb ((k.edge i).first j) n && ltb ((k.edge i).last j) n)
      ∙ ap (λ (c : ℕ). every (λ (i : ℕ). edge_segments n (edge_at old i)) (min c most_edges)) k.len

  -- those of link and serif
  indices-kin : edges_indices new ≡ edges_indices old
  unfolding edges_indices edge_indices
  indices-kin =
      every-below _ (λ (i : ℕ). edge_indices old.len (edge_at old i)) (min new.len most_edges)
      (λ i h j. link_holds (k.len j) ((k.edge i).link j) && link_holds (k.len j) ((k.edge i).serif j))
      ∙ ap (λ (c : ℕ). every (λ (i : ℕ). edge_indices old.len (edge_at old i)) (min c most_edges)) k.len

  -- those of the numbers beside the position
  other-kin : (i : ℕ) → others_hold (edge_at old i) ≡ true → others_hold (edge_at new i) ≡ true
  unfolding blue_holds
  other-kin i h =
      let e = k.edge i in
      let o : within most_units (edge_at new i).opos ≡ true = ap (within most_units) e.opos ∙ and_first _ _ h in
      let z : blue_holds (edge_at new i).blue ≡ true = ⊎_elim (λ q. ap blue_holds q ∙ and_second (within most_units (edge_at old i).opos) _ h)
      (λ q. ap blue_holds q) e.blue in
      λ j. o j && z j

  pub loose-kin : Loose old → Loose new
  loose-kin l = record {
    short = ap (λ (n : ℕ). leb n most_edges) k.len ∙ l.short;
    indexed = indices-kin ∙ l.indexed;
    others =
        every_holds _ (min new.len most_edges)
        (λ i h. other-kin i (every-at (λ (j : ℕ). others_hold (edge_at old j)) i (min old.len most_edges) l.others
        (omega (arith, h, ap (λ (n : ℕ). min n most_edges) k.len))));
  }

-- ---- edges accepted but for their positions
module _ {axis : Axis} where
  pub accepted-loose : EdgesAccepted axis → Loose axis
  unfolding edges_numbers edge_numbers
  accepted-loose a = record {
    short = a.short;
    indexed = a.indexed;
    others =
        every_holds _ (min axis.len most_edges)
        (λ i h.
        let e = edge_at axis i in
        let n = every-at (λ (j : ℕ). edge_numbers (edge_at axis j)) i (min axis.len most_edges) a.in_range h in
        let o = and_first (within most_units e.opos) _ n in
        let z = and_second (pos_holds e) _ (and_second (within most_units e.opos) _ n) in
        λ j. o j && z j);
  }

  module _ (l : Loose axis) where
    -- the test of their numbers is that of their positions
    number-loose : (i : ℕ) → i < min axis.len most_edges → edge_numbers (edge_at axis i) ≡ pos_holds (edge_at axis i)
    unfolding edge_numbers
    number-loose i h =
        let e = edge_at axis i in
        let n = every-at (λ (j : ℕ). others_hold (edge_at axis j)) i (min axis.len most_edges) l.others h in
        let o = and_first (within most_units e.opos) _ n in
        let z = and_second (within most_units e.opos) _ n in
        (λ j. o j && (pos_holds e && z j)) ∙ and-true (pos_holds e)

    pub loose-numbers : edges_numbers axis ≡ positions_hold axis
    unfolding edges_numbers positions_hold
    loose-numbers = every-below _ _ (min axis.len most_edges) number-loose

    pub loose-accepted : positions_hold axis ≡ true → EdgesAccepted axis
    loose-accepted h = record { short = l.short; indexed = l.indexed; in_range = loose-numbers ∙ h }
