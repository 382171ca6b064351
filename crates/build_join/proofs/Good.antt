-- What every state of both loops has: the groups are disjoint, each is a ring by `next`, and every member is a segment of the table.
use mathlib.Core.Path.{◌≡◌, refl, ◌∙◌}
use mathlib.Core.Bool.{Bool, true, false, ◌||◌}
use mathlib.Core.Logic.{⊎_elim}
use mathlib.Core.List.{List, [], ◌∷◌, ◌++◌}
use Prim.Native.Nat.{ℕ, zero, suc, ◌+◌, ◌≤◌, ◌<◌}
use native.Mathlib.Nat.{lt_of_lt_of_le}
use native.Mathlib.Numerals.{add-one}
use native.Mathlib.Omega.{arith}
use borrow.Author.Tests.{ltb-true, not-false}
use lib.ListN.{length, get_or, set, replicate, length-set, length-append, length-replicate}
use lib.Seq.{get_or-set_other}
use lib.Dec.{ltb}
use lib.Signed.{lt_z}
use Rattle.signed.proofs.Choices.{cond_cases, either_way, clash}
use Rattle.axis.specs.declared.kinds.Direction.TheVariants as Directions
use Rattle.axis.specs.declared.segment.Segment.{Segment}
use Rattle.axis.specs.declared.segment.Segments.{Segments}
use Rattle.axis.specs.Direction.{same}
use Rattle.axis.specs.Limits.{most_edges, most_segments}
use Rattle.axis.specs.Ring.{walk, ends, times}
use Rattle.axis.specs.Segment.{segment_at}
use Rattle.axis.proofs.Walks.{same?, times-nil}
use Rattle.build_join.specs.declared.rules.Rules.{Rules}
use Rattle.build_join.specs.Joining.{
  stops_behind,
  settle,
  passed_over,
  skips,
  head_or,
  last_in,
  edge_of,
  State,
  group,
  start,
  join,
  overfull,
  create,
  place_of,
  join_or_create,
  visit,
  after,
  begun,
  state_at,
}
use Rattle.build_join.specs.Walks.{next_in, Latin}
use Rattle.build_join.proofs.Members.{Once, last-in, times_snoc, times-one, times-self, few}
use Rattle.build_join.proofs.Rings.{Chain, chain-none, chain-other, ring-one, ring-more, ring-apart, walk-ring, ends-ring}
use Rattle.build_join.proofs.Settling.{settle-all, set_all, settle-above, length-settle, total, total-set, total-at, total-two, total-settle}

-- the state s of a loop before segment i
pub record Good (t : Segments) (r : Rules) (second : Bool) (s : State) (i : ℕ) : Type 0 where
  pub places : length s.groups ≡ most_edges
  pub nexts : length s.next ≡ most_segments
  pub room : s.count ≤ most_edges
  pub rings : (k : ℕ) → k < most_edges → Chain s.next (head_or 0 (group s k)) (group s k)
  pub once : (m : ℕ) → total m s.groups ≤ 1
  pub below : (m : ℕ) → 0 < total m s.groups → m < t.len
  pub fresh : (m : ℕ) → i ≤ m → skips r second (segment_at t m) ≡ false → total m s.groups ≡ 0
  pub kept : second ≡ false → (m : ℕ) → skips r false (segment_at t m) ≡ true → total m s.groups ≡ 0
  pub used : (k : ℕ) → k < s.count → 0 < length (group s k)
  pub unused : (k : ℕ) → s.count ≤ k → k < most_edges → group s k ≡ []

module _ (t : Segments) (r : Rules) (second : Bool) (s : State) (i : ℕ) (long : t.len ≤ most_segments) (hi : i < t.len) (G : Good t r second s i) where
  pub last-below : (k : ℕ) → k < s.count → last_in (group s k) < t.len
  last-below k hk = G.below (last_in (group s k)) (omega (arith, last-in (group s k) (G.used k hk), total-at (last_in (group s k)) s.groups k))

  -- Nothing changes.
  good-same : Good t r second s (i + 1)
  good-same = record {
    places = G.places;
    nexts = G.nexts;
    room = G.room;
    rings = G.rings;
    once = G.once;
    below = G.below;
    fresh = λ m h e. G.fresh m (omega arith) e;
    kept = G.kept;
    used = G.used;
    unused = G.unused;
  }

  -- Segment i joins group k.
  module _ (free : skips r second (segment_at t i) ≡ false) (k : ℕ) (hk : k < s.count) where
    abbrev new : List ℕ
    new = group s k ++ i ∷ []

    sum : (x : ℕ) → total x (join s k i).groups ≡ total x s.groups + times x (i ∷ [])
    sum x = omega (arith, total-set x s.groups k new (rw G.places (omega (arith, G.room))), times_snoc x i (group s k))

    none : total i s.groups ≡ 0
    none = G.fresh i (omega arith) free

    other : (x : ℕ) → (x ≡ i → ⊥) → total x (join s k i).groups ≡ total x s.groups
    other x e = omega (arith, sum x, times-one x i e)

    self : total i (join s k i).groups ≡ 1
    self = omega (arith, sum i, times-self i, none)

    by-other : (P : ℕ → Type 0) (x : ℕ) → (x ≡ i → P x) → ((x ≡ i → ⊥) → P x) → P x
    by-other P x f g = ⊎_elim f g (same? x i)

    rings-join : (j : ℕ) → j < most_edges → Chain (join s k i).next (head_or 0 (group (join s k i) j)) (group (join s k i) j)
    rings-join = set_all (λ (g : List ℕ). Chain (join s k i).next (head_or 0 g) g) [] s.groups k most_edges new (rw G.places (omega (arith, G.room)))
        (ring-more s.next (group s k) i (G.used k hk) (λ x. omega (arith, G.once x, total-at x s.groups k))
        (omega (arith, none, total-at i s.groups k))
        (rw G.nexts (omega arith)) (rw G.nexts (omega (arith, last-below k hk))) (G.rings k (omega (arith, G.room))))
        (λ j hj e. ring-apart s.next (head_or 0 (group s j)) (head_or 0 (group s k)) (last_in (group s k)) i (group s j)
        (omega (arith, none, total-at i s.groups j))
        (omega (arith, G.once (last_in (group s k)), last-in (group s k) (G.used k hk), total-two (last_in (group s k)) s.groups j k e)) (G.rings j hj))

    good-join : Good t r second (join s k i) (i + 1)
    good-join = record {
      places = length-set s.groups k new ∙ G.places;
      nexts = length-set (set s.next i (head_or 0 (group s k))) (last_in (group s k)) i ∙ (length-set s.next i (head_or 0 (group s k)) ∙ G.nexts);
      room = G.room;
      rings = rings-join;
      once = λ x. by-other (λ (y : ℕ). total y (join s k i).groups ≤ 1) x (λ e. rw e (omega (arith, self))) (λ e. omega (arith, other x e, G.once x));
      below = λ x h. by-other (λ (y : ℕ). y < t.len) x (λ e. rw e hi) (λ e. G.below x (omega (arith, other x e)));
      fresh = λ x h e. omega (arith, other x (λ (w : x ≡ i). omega arith), G.fresh x (omega arith) e);
      kept = λ b x e. omega (arith, other x (λ (w : x ≡ i). clash (skips r second (segment_at t i)) free (rw (b, ← w) e)), G.kept b x e);
      used =
          set_all (λ (g : List ℕ). 0 < length g) [] s.groups k s.count new (rw G.places (omega (arith, G.room))) (rw length-append (omega arith))
          (λ j hj e. G.used j hj);
      unused = λ j hj hj'. get_or-set_other s.groups k j new [] (λ (e : j ≡ k). omega arith) ∙ G.unused j hj hj';
    }

  -- Segment i makes a group.
  module _ (free : skips r second (segment_at t i) ≡ false) (st : List ℕ → Bool) (room : s.count < most_edges) where
    abbrev made : State
    made = record { groups = settle st [] (i ∷ []) s.groups s.count; count = s.count + 1; next = set s.next i i; full = s.full }

    in-places : s.count < length s.groups
    in-places = rw G.places room

    none' : total i s.groups ≡ 0
    none' = G.fresh i (omega arith) free

    sum' : (x : ℕ) → total x made.groups ≡ total x s.groups + times x (i ∷ [])
    sum' x =
        let z : times x (group s s.count) ≡ 0 = rw (G.unused s.count (omega arith) room) (times-nil x) in
        omega (arith, total-settle x st (i ∷ []) s.groups s.count in-places)

    other' : (x : ℕ) → (x ≡ i → ⊥) → total x made.groups ≡ total x s.groups
    other' x e = omega (arith, sum' x, times-one x i e)

    self' : total i made.groups ≡ 1
    self' = omega (arith, sum' i, times-self i, none')

    by-other' : (P : ℕ → Type 0) (x : ℕ) → (x ≡ i → P x) → ((x ≡ i → ⊥) → P x) → P x
    by-other' P x f g = ⊎_elim f g (same? x i)

    good-made : Good t r second made (i + 1)
    good-made = record {
      places = length-settle st [] (i ∷ []) s.groups s.count ∙ G.places;
      nexts = length-set s.next i i ∙ G.nexts;
      room = omega arith;
      rings =
          settle-all (λ (g : List ℕ). Chain (set s.next i i) (head_or 0 g) g) st [] (i ∷ []) most_edges (ring-one s.next i (rw G.nexts (omega arith)))
          s.groups s.count in-places room
          (λ j hj e. chain-other s.next (head_or 0 (group s j)) (group s j) i i (omega (arith, none', total-at i s.groups j)) (G.rings j hj));
      once = λ x. by-other' (λ (y : ℕ). total y made.groups ≤ 1) x (λ e. rw e (omega (arith, self'))) (λ e. omega (arith, other' x e, G.once x));
      below = λ x h. by-other' (λ (y : ℕ). y < t.len) x (λ e. rw e hi) (λ e. G.below x (omega (arith, other' x e)));
      fresh = λ x h e. omega (arith, other' x (λ (w : x ≡ i). omega arith), G.fresh x (omega arith) e);
      kept = λ b x e. omega (arith, other' x (λ (w : x ≡ i). clash (skips r second (segment_at t i)) free (rw (b, ← w) e)), G.kept b x e);
      used =
          settle-all (λ (g : List ℕ). 0 < length g) st [] (i ∷ []) (s.count + 1) (omega arith) s.groups s.count in-places (omega arith)
          (λ j hj e. G.used j (omega (arith, e)));
      unused = λ j hj hj'. settle-above st [] (i ∷ []) s.groups s.count j (omega arith) ∙ G.unused j (omega arith) hj';
    }

  good-full : Good t r second (overfull s) (i + 1)
  good-full = record {
    places = G.places;
    nexts = G.nexts;
    room = G.room;
    rings = G.rings;
    once = G.once;
    below = G.below;
    fresh = λ m h e. G.fresh m (omega arith) e;
    kept = G.kept;
    used = G.used;
    unused = G.unused;
  }

  abbrev P : State → Type 0
  P x = Good t r second x (i + 1)

  -- The visit of segment i.
  good-visit : Good t r second (visit t r second s i) (i + 1)
  unfolding visit join_or_create create
  good-visit =
      either_way P s.full _ _ good-same
      (cond_cases P (skips r second (segment_at t i)) _ _
      (λ e. good-same)
      (λ free. cond_cases P (ltb (place_of t r second s i) s.count) _ _
      (λ e. good-join free (place_of t r second s i) (ltb-true _ _ e))
      (λ e. either_way P second _ _ good-same
      (cond_cases P (ltb s.count most_edges) _ _
      (λ h. good-made free (λ (g : List ℕ). stops_behind r (edge_of t r.scale (i ∷ [])) (edge_of t r.scale g)) (ltb-true _ _ h))
      (λ h. good-full)))))

-- ---- where a loop starts
total-empty : (x n : ℕ) → total x (replicate n []) ≡ 0
unfolding total
total-empty x zero = refl
total-empty x (suc n) = omega (arith, total-empty x n, times-nil x)

group_empty : (n k : ℕ) → get_or {A = List ℕ} (replicate n []) k [] ≡ []
group_empty zero k = refl
group_empty (suc n) zero = refl
group_empty (suc n) (suc k) = group_empty n k

good_start : (t : Segments) (r : Rules) → Good t r false start 0
unfolding start
good_start t r = record {
  places = length-replicate {A = List ℕ} most_edges [];
  nexts = length-replicate {A = ℕ} most_segments 0;
  room = omega arith;
  rings = λ k h. chain-none _ _ (group_empty most_edges k);
  once = λ x. omega (arith, total-empty x most_edges);
  below = λ x h. absurd (omega (arith, total-empty x most_edges));
  fresh = λ x h e. total-empty x most_edges;
  kept = λ b x e. total-empty x most_edges;
  used = λ k h. absurd (omega arith);
  unused = λ k h h'. group_empty most_edges k;
}

-- Latin's first loop skips what the second one does not
or-true : (x y : Bool) → y ≡ true → (x || y) ≡ true
or-true true y h = refl
or-true false y h = h

dirless : (r : Rules) (x : Segment) → r.cjk ≡ false → skips r true x ≡ false → skips r false x ≡ true
unfolding skips passed_over
dirless r x l h = rw (l, not-false (same x.dir Directions.None) h) (or-true (lt_z x.height r.length) _ (or-true (lt_z r.width x.delta) _ refl))

good-second : (t : Segments) (r : Rules) (s : State) → r.cjk ≡ false → Good t r false s t.len → Good t r true s 0
good-second t r s l G = record {
  places = G.places;
  nexts = G.nexts;
  room = G.room;
  rings = G.rings;
  once = G.once;
  below = G.below;
  fresh = λ m h e. G.kept refl m (dirless r (segment_at t m) l e);
  kept = λ (b : true ≡ false). absurd (clash true b refl);
  used = G.used;
  unused = G.unused;
}

good-after : (t : Segments) (r : Rules) (second : Bool) (s : State) → t.len ≤ most_segments → Good t r second s 0 → (i : ℕ) → i ≤ t.len
    → Good t r second (after t r second s i) i
unfolding after
good-after t r second s long G zero h = G
good-after t r second s long G (suc i) h =
    rw (add-one i) at (good-visit t r second (after t r second s i) i long (omega arith) (good-after t r second s long G i (omega arith)))

good-begun : (t : Segments) (r : Rules) (second : Bool) → Latin r second → t.len ≤ most_segments → Good t r second (begun t r second) 0
unfolding begun
good-begun t r false l long = good_start t r
good-begun t r true l long = good-second t r _ (l refl) (good-after t r false start long (good_start t r) t.len (omega arith))

-- every state of both loops is good
pub good : (t : Segments) (r : Rules) (second : Bool) → Latin r second → t.len ≤ most_segments → (i : ℕ) → i ≤ t.len → Good t r second (state_at t r second i) i
good t r second l long i h = good-after t r second (begun t r second) long (good-begun t r second l long) i h

-- ---- the ring of an edge
module _ (t : Segments) (r : Rules) (second : Bool) (s : State) (i k : ℕ) (long : t.len ≤ most_segments) (G : Good t r second s i) (hk : k < s.count) where
  -- its members are segments of the table
  pub members-below : (x : ℕ) → 0 < times x (group s k) → x < t.len
  members-below x h = G.below x (omega (arith, total-at x s.groups k))

  -- each of them once
  pub members-once : Once (group s k)
  members-once x = omega (arith, G.once x, total-at x s.groups k)

  -- and the walk from the first to the last visits them in joining order, and ends
  pub ring-walk : (walk (next_in s.next) (last_in (group s k)) most_segments (head_or 0 (group s k)) ≡ group s k)
      × (ends (next_in s.next) most_segments (last_in (group s k)) most_segments (head_or 0 (group s k)) ≡ true)
  ring-walk = go (group s k) (G.used k hk) members-once (λ x h. lt_of_lt_of_le (members-below x h) long) (G.rings k (omega (arith, G.room)))
    where
      go : (g : List ℕ) → 0 < length g → Once g → ((x : ℕ) → 0 < times x g → x < most_segments) → Chain s.next (head_or 0 g) g
          → (walk (next_in s.next) (last_in g) most_segments (head_or 0 g) ≡ g)
          × (ends (next_in s.next) most_segments (last_in g) most_segments (head_or 0 g) ≡ true)
      go [] h o b c = absurd (omega arith)
      go (m ∷ ms) h o b c =
          let f = few most_segments (m ∷ ms) o b in
          (walk-ring s.next m m ms most_segments o (omega arith) c, ends-ring s.next m m ms most_segments o b (omega arith) c)
