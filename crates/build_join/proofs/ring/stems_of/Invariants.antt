-- `build_join::ring::stems_of` meets its contract: each turn fills in one.
use borrow.Author.Rules.{rules}
use borrow.Author.Tests.{not-true, not-false}
use native.Mathlib.Omega.{arith}
use native.Mathlib.Nat.{lt_of_lt_of_le}
use mathlib.Core.Path.{refl}
use Prim.Native.Nat.{◌<◌, ◌≤◌, ◌-◌}
use mir.Syntax.{w16}
use Rattle.signed.proofs.Signed.{got}
use Rattle.axis.specs.Limits.{most_segments}
use Rattle.axis.specs.Segment.{segment_at}
use Rattle.signed.proofs.Reading.{cast-16, back-16}
use Rattle.build_join.proofs.Stems.{Filled, filled_none, filled-skip, filled_more, stems-none, stems-all}
use Rattle.build_join.proofs.ring.stems_of.Given as goal

abbrev pub invariant-loop-i : goal.invariant-loop-i
invariant-loop-i l = (l.i ≤ l.count) × (l.count ≤ most_segments) × Filled l.segments l.stems l.i

abbrev pub decreases-loop-i : goal.decreases-loop-i
decreases-loop-i l = l.count - l.i
