-- Every edge of a built axis is a sound ring: following it from its first segment visits each segment of that edge once and no other, and ends at the last,
-- whose next is the first.
use Rattle.std.specs.Prelude.{None, Some}
use mathlib.Core.Path.{◌≡◌, refl, sym, ap, subst, ◌∙◌}
use mathlib.Core.Bool.{true, not, cond}
use mathlib.Core.List.{List, [], ◌∷◌}
use mathlib.Core.Logic.{◌⊎◌, inl, inr, ⊎_elim}
use Prim.Native.Nat.{ℕ, zero, suc, ◌+◌, ◌≤◌, ◌<◌}
use native.Mathlib.Nat.{eq-or-lt_of_le, lt_of_lt_of_le}
use native.Mathlib.Omega.{arith}
use borrow.Author.Tests.{ne_eqb}
use lib.Dec.{eqb}
use lib.ListN.{length, get_or, length-set}
use lib.Seq.{get_or-set_same, get_or-set_other}
use Rattle.signed.proofs.Signed.{lt-or-le}
use Rattle.axis.specs.declared.segment.Segment.{Segment}
use Rattle.axis.specs.declared.segment.Segments.{Segments}
use Rattle.axis.specs.Accepted.{SegmentsWithin}
use Rattle.axis.specs.Edge.{edge_at}
use Rattle.axis.specs.Handed.{Typed}
use Rattle.axis.specs.Limits.{most_segments}
use Rattle.axis.specs.Link.{is_linked}
use Rattle.axis.specs.Ring.{walk, next_of, members, times, Sound}
use Rattle.axis.specs.Segment.{empty_segment, segment_at, put_segment}
use Rattle.axis.proofs.Rings.{walk_at}
use Rattle.axis.proofs.Sound.{sound-from}
use Rattle.axis.proofs.Walks.{same?, times-nil}
use Rattle.build_join.specs.declared.rules.Rules.{Rules}
use Rattle.build_join.specs.Joining.{head_or, last_of, last_in, State, group, shown}
use Rattle.build_join.proofs.Members.{times-head, times-apart, times_more, Once, once-rest, head-last, last-in, few}
use Rattle.build_join.proofs.Rings.{Chain}
use Rattle.build_join.proofs.Settling.{total, total-two}
use Rattle.build_join.proofs.Good.{Good, members-below, members-once}
use Rattle.build_join.proofs.Steps.{of-len, of-first, of-last}
use Rattle.build_mark.specs.Marks.{forgotten, clear, cleared, member_of, marks, group_marks}
use Rattle.build.specs.Building.{last_state, built_segments, built_edges}
use Rattle.build.proofs.Handing.{ready}
use Rattle.build.proofs.Joins.{last-good}
use Rattle.build.proofs.Sound.{clear_at, rows}

-- ---- the members of one edge
marks_length : (next : List ℕ) (k : ℕ) (ms : List ℕ) (u : Segments) → length (marks next k ms u).segments ≡ length u.segments
unfolding marks
marks_length next k [] u = refl
marks_length next k (m ∷ ms) u = marks_length next k ms _ ∙ length-set u.segments m (member_of (segment_at u m) k (get_or next m 0))

-- others stay as they are
marks-out : (next : List ℕ) (k : ℕ) (ms : List ℕ) (u : Segments) (i : ℕ) → times i ms ≡ 0 → segment_at (marks next k ms u) i ≡ segment_at u i
unfolding marks
marks-out next k [] u i h = refl
marks-out next k (m ∷ ms) u i h =
    let a = times-apart i m ms h in
    marks-out next k ms _ i a.rest ∙ get_or-set_other u.segments m i (member_of (segment_at u m) k (get_or next m 0)) empty_segment a.head

-- a member of edge k
pub record Member (next : List ℕ) (k i : ℕ) (u : Segments) : Type 0 where
  pub edge : (segment_at u i).edge ≡ Some k
  pub behind : (segment_at u i).next ≡ Some (get_or next i 0)

member-stays : (next : List ℕ) (k j i : ℕ) (ms : List ℕ) (u : Segments) → times i ms ≡ 0 → Member next k i u → Member next k i (marks next j ms u)
member-stays next k j i ms u h M = let e = marks-out next j ms u i h in record { edge = rw e M.edge; behind = rw e M.behind }

some : (i m : ℕ) (ms : List ℕ) → times i ms ≡ 0 → 0 < times i (m ∷ ms) → i ≡ m
unfolding times
some i m ms h p = go (same? i m)
  where
    go : (i ≡ m) ⊎ (i ≡ m → ⊥) → i ≡ m
    go (inl e) = e
    go (inr e) = absurd (let q : 0 < cond (eqb i m) 1 0 + times i ms = p in let z = rw (ne_eqb i m e) at q in omega arith)

marks-in : (next : List ℕ) (k : ℕ) (ms : List ℕ) (u : Segments) (i : ℕ) → 0 < times i ms → i < length u.segments → Member next k i (marks next k ms u)
unfolding marks
marks-in next k [] u i h l = absurd (omega (arith, times-nil i))
marks-in next k (m ∷ ms) u i h l = ⊎_elim
    (λ (p : 0 < times i ms). marks-in next k ms _ i p (rw length-set l))
    (λ (p : times i ms ≤ 0). let e = some i m ms (omega arith) h in member-stays next k k i ms _ (omega arith) (here e))
    (lt-or-le 0 (times i ms))
  where
    here : i ≡ m → Member next k i (put_segment u m (member_of (segment_at u m) k (get_or next m 0)))
    here e =
        let q = get_or-set_same u.segments m (member_of (segment_at u m) k (get_or next m 0)) empty_segment (rw e at l) in
        rw e (record { edge = rw q refl; behind = rw q refl })

-- ---- all edges
module _ (t : Segments) (s : State) (T : Typed t) where
  clear-length : (n : ℕ) → length (clear n t).segments ≡ most_segments
  unfolding clear
  clear-length zero = T.places
  clear-length (suc n) = length-set (clear n t).segments n (forgotten (segment_at (clear n t) n)) ∙ clear-length n

  groups-length : (n : ℕ) → length (group_marks s n (cleared t)).segments ≡ most_segments
  unfolding group_marks cleared
  groups-length zero = clear-length t.len
  groups-length (suc n) = marks_length s.next n (group s n) _ ∙ groups-length n

  -- a member of edge k has it for its edge
  groups-in : ((m : ℕ) → total m s.groups ≤ 1) → (k i : ℕ) → i < most_segments → 0 < times i (group s k) → (n : ℕ) → k < n
      → Member s.next k i (group_marks s n (cleared t))
  unfolding group_marks
  groups-in o k i hi p zero h = absurd (omega arith)
  groups-in o k i hi p (suc n) h = ⊎_elim
      (λ (e : k ≡ n). rw (sym e) (marks-in s.next k (group s k) (group_marks s k (cleared t)) i p (rw (groups-length k) hi)))
      (λ (l : k < n). member-stays s.next k n i (group s n) _ (omega (arith, o i, total-two i s.groups k n (λ (e : k ≡ n). omega arith)))
      (groups-in o k i hi p n l))
      (eq-or-lt_of_le (omega arith))

  -- and no other segment has
  groups-own : (k i : ℕ) → i < most_segments → i < t.len → (n : ℕ) → (segment_at (group_marks s n (cleared t)) i).edge ≡ Some k → 0 < times i (group s k)
  unfolding group_marks cleared
  groups-own k i hi hl zero e = absurd (none (ap (λ (x : Segment). x.edge) (sym (clear_at t t.len i hl)) ∙ e))
    where
      none : None ≡ Some k → ⊥
      none e = let z : ◌≡◌ {A = ℕ} 0 1 = cc in omega arith
  groups-own k i hi hl (suc n) e = ⊎_elim
      (λ (p : 0 < times i (group s n)).
      let M = marks-in s.next n (group s n) (group_marks s n (cleared t)) i p (rw (groups-length n) hi) in
      let q : n ≡ k = to_same n k (sym M.edge ∙ e) in
      rw q at p)
      (λ (p : times i (group s n) ≤ 0). groups-own k i hi hl n (ap (λ (x : Segment). x.edge) (sym (marks-out s.next n (group s n) _ i (omega arith))) ∙ e))
      (lt-or-le 0 (times i (group s n)))
    where
      to_same : (n k : ℕ) → Some n ≡ Some k → n ≡ k
      to_same n k e = cc

-- ---- the walk
walk-chain : (u : Segments) (next : List ℕ) (f m : ℕ) (ms : List ℕ) (n : ℕ)
    → ((x : ℕ) → 0 < times x (m ∷ ms) → (segment_at u x).next ≡ Some (get_or next x 0)) → Once (m ∷ ms) → length ms ≤ n
    → Chain next f (m ∷ ms)
    → walk (next_of u (last_of m ms)) (last_of m ms) n m ≡ m ∷ ms
unfolding Chain walk
walk-chain u next f m [] n N o h r = walk_at (next_of u m) m n m refl
walk-chain u next f m (x ∷ ms) zero N o h r = absurd (omega arith)
walk-chain u next f m (x ∷ ms) (suc n) N o h r =
    rw (ne_eqb m (last_of x ms) (head-last m x ms o), N m (omega (arith, times-head m (x ∷ ms))), r.0)
    (ap (λ (l : List ℕ). m ∷ l) (walk-chain u next f x ms n (λ y p. N y (omega (arith, times_more y m (x ∷ ms)))) (once-rest m (x ∷ ms) o) (omega arith)
    r.1))

-- the next of the last is the first
chain-last : (next : List ℕ) (f m : ℕ) (ms : List ℕ) → Chain next f (m ∷ ms) → get_or next (last_of m ms) 0 ≡ f
unfolding Chain
chain-last next f m [] r = r.0
chain-last next f m (x ∷ ms) r = chain-last next f x ms r.1

-- ---- the theorem
module _ (t : Segments) (r : Rules) (W : SegmentsWithin t) (T : Typed t) where
  abbrev s : State
  s = last_state t r

  G : Good t r (not r.cjk) s t.len
  G = last-good t r W.few

  below : (k : ℕ) → k < s.count → (x : ℕ) → 0 < times x (group s k) → x < t.len
  below k h = members-below t r (not r.cjk) s t.len k W.few G h

  member : (k : ℕ) → k < s.count → (x : ℕ) → 0 < times x (group s k) → Member s.next k x (group_marks s s.count (cleared t))
  member k h x p = groups-in t s T G.once k x (lt_of_lt_of_le (below k h x p) W.few) p s.count h

  first_is : (k : ℕ) → (edge_at (built_edges t r s) k).first ≡ head_or 0 (group s k)
  first_is k = of-first t r s (shown t r s).full (shown t r s).axis (shown t r s).next refl k

  last_is : (k : ℕ) → (edge_at (built_edges t r s) k).last ≡ last_in (group s k)
  last_is k = of-last t r s (shown t r s).full (shown t r s).axis (shown t r s).next refl k

  -- the walk visits the segments of a group in the order in which they joined
  pub visited : (k : ℕ) → k < s.count → members (built_edges t r s) (built_segments t s) k ≡ group s k
  unfolding built_segments
  visited k h =
      rw (first_is k, last_is k)
      (all (group s k) (G.used k h) (members-once t r (not r.cjk) s t.len k W.few G h)
      (λ x p. lt_of_lt_of_le (below k h x p) W.few) (λ x p. (member k h x p).behind) (G.rings k (omega (arith, G.room))))
    where
      all : (g : List ℕ) → 0 < length g → Once g → ((x : ℕ) → 0 < times x g → x < most_segments)
          → ((x : ℕ) → 0 < times x g → (segment_at (group_marks s s.count (cleared t)) x).next ≡ Some (get_or s.next x 0))
          → Chain s.next (head_or 0 g) g → walk (next_of (group_marks s s.count (cleared t)) (last_in g)) (last_in g) most_segments (head_or 0 g) ≡ g
      all [] p o b N c = absurd (omega arith)
      all (m ∷ ms) p o b N c =
          let f = few most_segments (m ∷ ms) o b in walk-chain (group_marks s s.count (cleared t)) s.next m m ms most_segments N o (omega arith) c

  -- the next of the last is the first
  closed : (k : ℕ) → k < s.count → (segment_at (built_segments t s) (edge_at (built_edges t r s) k).last).next ≡ Some (edge_at (built_edges t r s) k).first
  unfolding built_segments
  closed k h =
      rw (first_is k, last_is k)
      ((member k h (last_in (group s k)) (omega (arith, last-in (group s k) (G.used k h)))).behind
      ∙ ap Some (turn (group s k) (G.used k h) (G.rings k (omega (arith, G.room)))))
    where
      turn : (g : List ℕ) → 0 < length g → Chain s.next (head_or 0 g) g → get_or s.next (last_in g) 0 ≡ head_or 0 g
      turn [] p c = absurd (omega arith)
      turn (m ∷ ms) p c = chain-last s.next m m ms c

  -- the members have this edge
  own : (k : ℕ) → k < s.count → (i : ℕ) → 0 < times i (group s k) → (segment_at (built_segments t s) i).edge ≡ Some k
  unfolding built_segments
  own k h i p = (member k h i p).edge

  -- each leads to one
  led : (k : ℕ) → k < s.count → (i : ℕ) → 0 < times i (group s k) → is_linked (segment_at (built_segments t s) i).next ≡ true
  unfolding built_segments
  led k h i p = ap is_linked (member k h i p).behind

  -- and no others have
  every_one : (k i : ℕ) → i < (built_segments t s).len → (segment_at (built_segments t s) i).edge ≡ Some k → 0 < times i (group s k)
  unfolding built_segments
  every_one k i l e =
      let size = (rows t s (λ k x h p. below k h x p)).size in groups-own t s T k i (lt_of_lt_of_le (rw size at l) W.few) (rw size at l) s.count e

  -- every ring is sound
  pub sound : (k : ℕ) → k < s.count → Sound (built_edges t r s) (built_segments t s) k
  sound k h =
      let v = visited k h in
      let j = shown t r s in
      sound-from (built_edges t r s) (built_segments t s) k
      ((ready t r j refl W).rings.ring k (rw (of-len t r s j.full j.axis j.next refl) h))
      (λ i. subst (λ (ms : List ℕ). times i ms ≤ 1) (sym v) (members-once t r (not r.cjk) s t.len k W.few G h i))
      (λ i p. own k h i (subst (λ (ms : List ℕ). 0 < times i ms) v p))
      (λ i l e. subst (λ (ms : List ℕ). 0 < times i ms) (sym v) (every_one k i l e))
      (λ i p. led k h i (subst (λ (ms : List ℕ). 0 < times i ms) v p))
      (closed k h)
