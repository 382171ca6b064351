-- `words_segment_test::hold::segments_hold` meets its contract.
use borrow.Author.Tests.{not-false}
use mathlib.Core.Path.{◌≡◌, refl}
use Prim.Native.Nat.{◌-◌}
use native.Mathlib.Omega.{arith}
use Rattle.words_call.proofs.Holding.{clash}
use Rattle.words_edge_test.specs.Held.{links_to}
use Rattle.words.specs.Record.{segment_layout}
use Rattle.words_call.proofs.Tested.{Passed, passed_none, passed-more}
use Rattle.words_segment_test.specs.Held.{links_where}
use Rattle.words_segment_test.proofs.Holding.{SegmentHeld, held_by, passed-all}
use Rattle.words_segment_test.proofs.hold.segments_hold.Given as goal

abbrev pub invariant-loop-i : goal.invariant-loop-i
invariant-loop-i l = (l.links ≡ links_to l.n) × (l.ways ≡ links_where l.n l.nexts) × Passed segment_layout (SegmentHeld l.words l.nexts l.n) l.words l.n l.i

abbrev pub decreases-loop-i : goal.decreases-loop-i
decreases-loop-i l = l.n - l.i
