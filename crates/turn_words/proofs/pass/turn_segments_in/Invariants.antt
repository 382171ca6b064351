-- `turn_words::pass::turn_segments_in` meets its contract: each turn renumbers one edge.
use mathlib.Core.Path.{◌≡◌, refl}
use mathlib.Core.Bool.{true}
use Prim.Native.Nat.{◌≤◌, ◌<◌, ◌-◌}
use native.Mathlib.Omega.{arith}
use borrow.Author.Rules.{rules}
use Rattle.axis.specs.declared.segment.Segments.{Segments}
use Rattle.axis.specs.Refusals.{link_holds}
use Rattle.turn.proofs.Places.{segments_to}
use Rattle.words.specs.Segment.{segments_in}
use Rattle.words_segment.specs.Whole.{Became}
use Rattle.words_segment.proofs.Became.{stays, below_in}
use Rattle.turn_words.proofs.Turns.{next-holds, turned-in, one_more, all-turned}
use Rattle.turn_words.proofs.pass.turn_segments_in.Given as goal

abbrev pub invariant-loop-i : goal.invariant-loop-i
invariant-loop-i l = (l.i ≤ segments_in l.initial.segments) × Became (λ (t : Segments). segments_to l.count t l.i) l.initial.segments l.segments

abbrev pub decreases-loop-i : goal.decreases-loop-i
decreases-loop-i l = l.n - l.i
