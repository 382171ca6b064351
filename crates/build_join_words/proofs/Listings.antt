-- The lists of a state, and of the states that a visit makes of it.
use mathlib.Core.Path.{◌≡◌, refl, sym, ap, ◌∙◌}
use mathlib.Core.Bool.{Bool, true, false}
use mathlib.Core.List.{List, [], ◌∷◌, ◌++◌, map}
use Prim.Native.Nat.{ℕ, ◌+◌, ◌<◌}
use native.Mathlib.Omega.{arith}
use lib.IntN.{ℤ, pos}
use lib.ListN.{length, get_or, set, replicate, get_or-map}
use lib.Seq.{map-set_same}
use Rattle.axis.specs.declared.segment.Segments.{Segments}
use Rattle.axis.specs.Limits.{most_edges, most_segments}
use Rattle.axis.specs.Segment.{segment_at}
use Rattle.build_join.specs.declared.rules.Rules.{Rules}
use Rattle.build_join.specs.Joining.{settle, stops_behind, head_or, last_in, edge_of, appended, State, group, start, join, overfull, begun}
use Rattle.build_join.proofs.Settling.{map-set}
use Rattle.build_join.proofs.Steps.{made, last_snoc}
use Rattle.build_join.proofs.Turns.{map-replicate}
use Rattle.build_join_words.specs.Lists.{Listed, place_by, Placed, stop_at, insert_at, Inserted}
use Rattle.build_join_words.proofs.Inserting.{settle-insert, insert-map}

-- ---- groups
head_more : (g : List ℕ) (i : ℕ) → 0 < length g → head_or 0 (g ++ i ∷ []) ≡ head_or 0 g
head_more [] i h = absurd (omega arith)
head_more (m ∷ ms) i h = refl

last_more : (g : List ℕ) (i : ℕ) → last_in (g ++ i ∷ []) ≡ i
last_more [] i = refl
last_more (m ∷ ms) i = last_snoc m i ms

place-more : (t : Segments) (scale : ℤ) (g : List ℕ) (i : ℕ) → 0 < length g → place_by t scale (g ++ i ∷ []) ≡ place_by t scale g
place-more t scale [] i h = absurd (omega arith)
place-more t scale (m ∷ ms) i h = refl

-- what is shown of the groups takes a new one where that settles
settled-map : {B : Type 0} (f : List ℕ → B) (st : List ℕ → Bool) (i at : ℕ) (gs : List (List ℕ)) (n : ℕ) → at ≡ stop_at st [] gs n
    → insert_at (f []) (f (i ∷ [])) (map f gs) at n ≡ map f (settle st [] (i ∷ []) gs n)
settled-map f st i at gs n e =
    sym (insert-map f [] (i ∷ []) gs at n) ∙ ap (λ (k : ℕ). map f (insert_at [] (i ∷ []) gs k n)) e ∙ ap (map f) (sym (settle-insert [] (i ∷ []) st gs n))

-- no edge yet
pub listed-none : (t : Segments) (r : Rules) {first last next : List ℕ} → first ≡ replicate most_edges 0 → last ≡ replicate most_edges 0
    → next ≡ replicate most_segments 0
    → Listed (begun t r false) first last next false 0
unfolding begun start
listed-none t r p q u = record {
  firsts = p ∙ sym (map-replicate (head_or 0) most_edges []);
  lasts = q ∙ sym (map-replicate last_in most_edges []);
  nexts = u;
  fulls = refl;
  counts = refl;
}

module _ {s : State} {first last next : List ℕ} {full : Bool} {count : ℕ} (L : Listed s first last next full count) where
  -- the first segment of an edge, and its last
  pub first-at : (k : ℕ) → get_or first k 0 ≡ head_or 0 (group s k)
  first-at k = ap (λ (l : List ℕ). get_or l k 0) L.firsts ∙ get_or-map (head_or 0) s.groups k []

  pub last-at : (k : ℕ) → get_or last k 0 ≡ last_in (group s k)
  last-at k = ap (λ (l : List ℕ). get_or l k 0) L.lasts ∙ get_or-map last_in s.groups k []

  -- segment i joins edge k
  pub listed-join : (k i : ℕ) (next' : List ℕ) → 0 < length (group s k) → next' ≡ appended next (get_or first k 0) (get_or last k 0) i
      → Listed (join s k i) first (set last k i) next' full count
  listed-join k i next' u e = record {
    firsts = L.firsts ∙ sym (map-set_same (head_or 0) s.groups k (group s k ++ i ∷ []) [] (head_more (group s k) i u));
    lasts =
        ap (λ (l : List ℕ). set l k i) L.lasts ∙ ap (set (map last_in s.groups) k) (sym (last_more (group s k) i))
        ∙ sym (map-set last_in s.groups k (group s k ++ i ∷ []));
    nexts = rw (e, first-at k, last-at k, L.nexts);
    fulls = L.fulls;
    counts = L.counts;
  }

  -- one more edge is called for
  pub listed-full : Listed (overfull s) first last next true count
  listed-full = record { firsts = L.firsts; lasts = L.lasts; nexts = L.nexts; fulls = refl; counts = L.counts }

  -- segment i makes an edge
  pub listed-made : (st : List ℕ → Bool) (i at : ℕ) (first' last' next' : List ℕ) → at ≡ stop_at st [] s.groups s.count
      → first' ≡ insert_at 0 i first at count
      → last' ≡ insert_at 0 i last at count → next' ≡ set next i i
      → Listed (record { groups = settle st [] (i ∷ []) s.groups s.count; count = s.count + 1; next = set s.next i i; full = s.full }) first' last'
      next' full (count + 1)
  listed-made st i at first' last' next' e p q u = record {
    firsts = rw (p, L.firsts, L.counts) (settled-map (head_or 0) st i at s.groups s.count e);
    lasts = rw (q, L.lasts, L.counts) (settled-map last_in st i at s.groups s.count e);
    nexts = rw (u, L.nexts);
    fulls = L.fulls;
    counts = ap (λ (n : ℕ). n + 1) L.counts;
  }

-- ---- with the positions
-- in an equal place and at an equal position
pub inserted-as : {at at' count i : ℕ} {place place' : ℤ} {places places' : List ℤ} {first last first' last' : List ℕ} → at ≡ at' → place ≡ place'
    → Inserted at count place i places first last places' first' last' → Inserted at' count place' i places first last places' first' last'
inserted-as e p I = rw (← e, ← p) I

pub placed-none : (t : Segments) (r : Rules) {first last next : List ℕ} → Listed (begun t r false) first last next false 0
    → Placed t r (begun t r false) (replicate most_edges (pos 0)) first last next false 0
unfolding begun start
placed-none t r L = record { listed = L; positions = sym (map-replicate (place_by t r.scale) most_edges []) }

module _ {t : Segments} {r : Rules} {s : State} {places : List ℤ} {first last next : List ℕ} {full : Bool} {count : ℕ}
    (P : Placed t r s places first last next full count) where
  -- the same of an equal state, and of an equal answer
  pub placed-as : {s' : State} → s ≡ s' → Placed t r s' places first last next full count
  placed-as e = rw (← e) P

  pub placed-if : {full' : Bool} → full ≡ full' → Placed t r s places first last next full' count
  placed-if e = rw (← e) P

  -- the position of an edge
  pub place_at : (k : ℕ) → get_or places k (pos 0) ≡ (edge_of t r.scale (group s k)).fpos
  place_at k = ap (λ (l : List ℤ). get_or l k (pos 0)) P.positions ∙ get_or-map (place_by t r.scale) s.groups k []

  -- segment i joins edge k
  pub placed-join : (k i : ℕ) (next' : List ℕ) → 0 < length (group s k) → next' ≡ appended next (get_or first k 0) (get_or last k 0) i
      → Placed t r (join s k i) places first (set last k i) next' full count
  placed-join k i next' u e = record {
    listed = listed-join P.listed k i next' u e;
    positions = P.positions ∙ sym (map-set_same (place_by t r.scale) s.groups k (group s k ++ i ∷ []) [] (place-more t r.scale (group s k) i u));
  }

  -- one more edge is called for
  pub placed-full : Placed t r (overfull s) places first last next true count
  placed-full = record { listed = listed-full P.listed; positions = P.positions }

  -- segment i makes an edge
  pub placed-made : (i at : ℕ) (place : ℤ) (places' : List ℤ) (first' last' next' : List ℕ)
      → at ≡ stop_at (λ (g : List ℕ). stops_behind r (edge_of t r.scale (i ∷ [])) (edge_of t r.scale g)) [] s.groups s.count
      → place ≡ (segment_at t i).pos
      → Inserted at count place i places first last places' first' last' → next' ≡ set next i i
      → Placed t r (made t r s i) places' first' last' next' full (count + 1)
  placed-made i at place places' first' last' next' e z I u = record {
    listed = listed-made P.listed _ i at first' last' next' e I.firsts I.lasts u;
    positions = rw (I.positions, z, P.positions, P.listed.counts) (settled-map (place_by t r.scale) _ i at s.groups s.count e);
  }
