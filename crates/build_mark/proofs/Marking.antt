-- Segments learn their edges: one turn, and that the walks are the groups.
use mathlib.Core.Path.{◌≡◌, refl}
use mathlib.Core.List.{List}
use Prim.Native.Nat.{ℕ, zero, suc, ◌+◌, ◌≤◌, ◌<◌}
use native.Mathlib.Numerals.{add-one}
use native.Mathlib.Omega.{arith}
use lib.ListN.{get_or}
use Rattle.axis.specs.declared.edge.Axis.{Axis}
use Rattle.axis.specs.declared.segment.Segment.{Segment}
use Rattle.axis.specs.declared.segment.Segments.{Segments}
use Rattle.axis.specs.Edge.{edge_at}
use Rattle.axis.specs.Limits.{most_segments}
use Rattle.axis.specs.Ring.{walk}
use Rattle.axis.specs.Segment.{segment_at, put_segment}
use Rattle.axis.proofs.Rings.{Passes, walk_at}
use Rattle.build_join.specs.Joining.{State, group}
use Rattle.build_join.specs.Walks.{next_in}
use Rattle.build_mark.specs.Marks.{forgotten, clear, cleared, member_of, marks, group_marks}
use Rattle.build_mark.specs.Steps.{marked}

-- ---- what is forgotten
pub clear_none : (t : Segments) → t ≡ clear 0 t
unfolding clear
clear_none t = refl

pub clear-more : (t u : Segments) (i : ℕ) (s : Segment) → u ≡ clear i t → s ≡ forgotten (segment_at u i) → put_segment u i s ≡ clear (i + 1) t
unfolding clear
clear-more t u i s p q = rw (q, p, add-one)

pub clear-done : (t u : Segments) (i : ℕ) → i ≤ t.len → t.len ≤ i → u ≡ clear i t → u ≡ cleared t
unfolding cleared
clear-done t u i h g p = let e : i ≡ t.len = omega arith in rw e at p

-- ---- the members of an edge
module _ (next : List ℕ) (last k ix : ℕ) (t x : Segments) (s : Segment) (e : s ≡ member_of (segment_at t ix) k (get_or next ix 0))
    (h : marks next k (walk (next_in next) last most_segments ix) t ≡ x) where
  -- what is left of the walk gives x: one on the way
  pub mark_on : Passes (next_in next) most_segments last most_segments ix
      → marks next k (walk (next_in next) last most_segments (get_or next ix 0)) (put_segment t ix s) ≡ x
  unfolding marks
  mark_on p = rw (e, ← h, p.step)

  -- and the last
  pub mark-end : ix ≡ last → put_segment t ix s ≡ x
  unfolding marks
  mark-end p = rw (e, ← h, walk_at (next_in next) last most_segments ix p)

-- ---- edge after edge
pub marked-none : (next : List ℕ) (axis : Axis) (t : Segments) → t ≡ marked next axis 0 t
unfolding marked
marked-none next axis t = refl

pub marked_more : (next : List ℕ) (axis : Axis) (k : ℕ) (t u x : Segments) → u ≡ marked next axis k t
    → x ≡ marks next k (walk (next_in next) (edge_at axis k).last most_segments (edge_at axis k).first) u → x ≡ marked next axis (k + 1) t
unfolding marked
marked_more next axis k t u x p q = rw (q, p, add-one)

pub marked-is : (next : List ℕ) (axis : Axis) (s : State) → next ≡ s.next
    → ((k : ℕ) → k < s.count → walk (next_in next) (edge_at axis k).last most_segments (edge_at axis k).first ≡ group s k)
    → (n : ℕ) → n ≤ s.count → (t : Segments) → marked next axis n t ≡ group_marks s n t
unfolding marked group_marks
marked-is next axis s e w zero h t = refl
marked-is next axis s e w (suc n) h t = rw (marked-is next axis s e w n (omega arith) t, w n (omega arith), e)
