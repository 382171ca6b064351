-- `mend_rings_words::gather::gather_in` meets its contract: each turn reads one segment.
use mathlib.Core.Path.{◌≡◌, refl, sym, ap, ◌∙◌}
use Prim.Native.Nat.{◌≤◌, ◌-◌}
use native.Mathlib.Omega.{arith}
use borrow.Author.Rules.{rules}
use Rattle.axis.specs.Limits.{most_edges, most_segments}
use Rattle.axis.specs.Link.{index_or}
use Rattle.words.specs.Segment.{segments_in}
use Rattle.mend_rings_words.proofs.Gathers.{GatheredTo, gathered_none, gathered-more, gathered-all}
use Rattle.mend_rings_words.proofs.gather.gather_in.Goals as goal

pub loop-i-init : goal.loop-i-init
loop-i-init c = (omega arith, refl, c.requires.0, gathered_none _ c.requires.1 c.requires.2)

pub overflow_mul-at : goal.overflow_mul-at
overflow_mul-at c = omega arith

pub overflow_add-at : goal.overflow_add-at
overflow_add-at c = omega arith

pub offset_bounds-edges-i : goal.offset_bounds-edges-i
offset_bounds-edges-i c = omega arith

pub bounds-edges-i : goal.bounds-edges-i
bounds-edges-i c = omega arith

pub overflow_add-at-in-loop-i : goal.overflow_add-at-in-loop-i
overflow_add-at-in-loop-i c = omega arith

pub overflow_cast-n : goal.overflow_cast-n
overflow_cast-n c = omega arith

pub offset_bounds-next-i : goal.offset_bounds-next-i
offset_bounds-next-i c = omega arith

pub bounds-next-i : goal.bounds-next-i
bounds-next-i c = omega arith

pub overflow_step-i : goal.overflow_step-i
overflow_step-i c = omega arith

pub loop-i-smaller : goal.loop-i-smaller
loop-i-smaller c = omega arith

pub loop-i-preserved : goal.loop-i-preserved
loop-i-preserved c =
    let l = c.loop-i in (
      omega arith,
      l.invariant.1,
      l.invariant.2,
      gathered-more _ _ l.invariant.3 (omega arith) _ _
          (c.number_or.ensures ∙ ap (index_or most_edges) c.link_at.ensures)
          (c.number_or-in-loop-i.ensures ∙ ap (index_or _) c.link_at-in-loop-i.ensures),
    )

pub returns : goal.returns
returns c = let l = c.loop-i.invariant in gathered-all _ l.2 c.loop-i-test.false l.3
