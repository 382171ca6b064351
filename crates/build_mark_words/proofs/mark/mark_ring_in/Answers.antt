-- `build_mark_words::mark::mark_ring_in` meets its contract: what is left of the walk gives the whole.
use mathlib.Core.Path.{◌∙◌}
use Prim.Native.Nat.{◌<◌}
use native.Mathlib.Omega.{arith}
use borrow.Author.Rules.{rules}
use lib.ListN.{length}
use Rattle.axis.specs.Limits.{most_edges, most_segments}
use Rattle.axis.specs.Ring.{walk}
use Rattle.build_join.specs.Walks.{next_in}
use Rattle.build_join.proofs.Rings.{fewer}
use Rattle.build_mark_words.proofs.Marking.{Left, left-start, left-passes, left-next, left_end}
use Rattle.build_mark_words.proofs.mark.mark_ring_in.Goals as goal

pub loop-ix-init : goal.loop-ix-init
loop-ix-init c = (c.requires.1, left-start _ _ _ _ _ c.requires.0 c.requires.2 c.requires.3)

pub offset_bounds-next-at : goal.offset_bounds-next-at
offset_bounds-next-at c = let p = c.loop-ix.invariant.1 in omega (arith, p.below, p.whole.few)

pub bounds-next-at : goal.bounds-next-at
bounds-next-at c = let p = c.loop-ix.invariant.1 in omega (arith, p.below, p.whole.few)

pub member_in-requires : goal.member_in-requires
member_in-requires c =
    let p = c.loop-ix.invariant in
    (p.1.whole, p.1.below, p.0)

pub shape_of-words-then-ix-last : goal.shape_of-words-then-ix-last
shape_of-words-then-ix-last c =
    let member = c in
    let l = member in
    member.member_in.ensures.long ∙ l.loop-ix.invariant.1.long

pub returns-then-ix-last : goal.returns-then-ix-last
returns-then-ix-last c =
    let member = c in
    let l = member in
    left_end _ _ _ _ _ l.loop-ix.invariant.1 member.member_in.ensures c.if-ix-last.true

pub loop-ix-smaller : goal.loop-ix-smaller
loop-ix-smaller c =
    let l = c in
    fewer _ _ _ _ _ (left-passes _ _ _ _ _ l.loop-ix.invariant.1 c.if-ix-last.false)

pub loop-ix-preserved : goal.loop-ix-preserved
loop-ix-preserved c =
    let member = c in
    let l = member in
    (l.loop-ix.invariant.0, left-next _ _ _ _ _ l.loop-ix.invariant.1 member.member_in.ensures c.if-ix-last.false)
