-- `mend_rings_words::gather::gather_in` meets its contract: each turn reads one segment.
use mathlib.Core.Path.{◌≡◌, refl, sym, ap, ◌∙◌}
use Prim.Native.Nat.{◌≤◌, ◌-◌}
use native.Mathlib.Omega.{arith}
use borrow.Author.Rules.{rules}
use Rattle.axis.specs.Limits.{most_edges, most_segments}
use Rattle.axis.specs.Link.{index_or}
use Rattle.words.specs.Segment.{segments_in}
use Rattle.mend_rings_words.proofs.Gathers.{GatheredTo, gathered_none, gathered-more, gathered-all}
use Rattle.mend_rings_words.proofs.gather.gather_in.Given as goal

abbrev pub invariant-loop-i : goal.invariant-loop-i
invariant-loop-i l = (l.i ≤ l.n) × (l.n ≡ segments_in l.segments) × (l.n ≤ most_segments) × GatheredTo l.segments l.i l.edges l.next

abbrev pub decreases-loop-i : goal.decreases-loop-i
decreases-loop-i l = l.n - l.i
