-- `mend_rings_words::broken::find_broken` meets its contract: each turn follows one ring.
use mathlib.Core.Path.{◌≡◌, refl, sym, ap, ◌∙◌}
use Prim.Native.Nat.{◌≤◌, ◌-◌}
use native.Mathlib.Omega.{arith}
use borrow.Author.Rules.{rules}
use Rattle.axis.specs.Limits.{most_edges, most_segments}
use Rattle.words.specs.Edge.{edges_in}
use Rattle.mend_rings_words.specs.Followed.{FollowedTo}
use Rattle.mend_rings_words.proofs.Follows.{followed-none, followed-more, followed-all}
use Rattle.mend_rings_words.proofs.broken.find_broken.Goals as goal

pub loop-k-init : goal.loop-k-init
loop-k-init c = (omega arith, refl, c.requires.1, c.requires.0, followed-none _ _ _ _ _ c.requires.2)

pub overflow_mul-at : goal.overflow_mul-at
overflow_mul-at c = omega arith

pub overflow_add-at : goal.overflow_add-at
overflow_add-at c = omega arith

pub overflow_add-at-in-loop-k : goal.overflow_add-at-in-loop-k
overflow_add-at-in-loop-k c = omega arith

pub overflow_cast-k : goal.overflow_cast-k
overflow_cast-k c = omega arith

pub offset_bounds-counts-k : goal.offset_bounds-counts-k
offset_bounds-counts-k c = omega arith

pub bounds-broken-k : goal.bounds-broken-k
bounds-broken-k c = omega arith

pub overflow_step-k : goal.overflow_step-k
overflow_step-k c = omega arith

pub loop-k-smaller : goal.loop-k-smaller
loop-k-smaller c = omega arith

pub loop-k-preserved : goal.loop-k-preserved
loop-k-preserved c =
    let last = c in
    let first = last in
    let l = first.loop-k in (
      omega arith,
      l.invariant.1,
      l.invariant.2,
      l.invariant.3,
      followed-more _ _ _ _ _ _ l.invariant.4 (omega arith) _ _ _ first.index_at-first.ensures last.index_at-last.ensures c.ring_holds-holds.ensures,
    )

pub returns : goal.returns
returns c = let l = c.loop-k.invariant in followed-all _ _ _ _ _ (omega arith) (omega arith) l.4
