-- `build_join::ring::ring_agrees` meets its contract: what is left of the walk gives the whole.
use borrow.Author.Rules.{rules}
use borrow.Author.Tests.{not-true, not-false}
use native.Mathlib.Omega.{arith}
use mathlib.Core.Path.{◌≡◌, refl, sym, ◌∙◌}
use mathlib.Core.Bool.{true, false}
use Prim.Native.Nat.{◌<◌}
use lib.IntN.{pos}
use lib.ListN.{length, get_or}
use lib.Signed.{le_z}
use mir.Syntax.{w32}
use mir.Val.{to_z}
use Rattle.signed.proofs.Signed.{is, got}
use Rattle.axis.specs.Limits.{most_segments}
use Rattle.axis.specs.Ring.{walk, ends}
use Rattle.axis.proofs.Rings.{Passes, walk-passes}
use Rattle.build_join.specs.Walks.{next_in, no_stem, stem_near, stems_agree}
use Rattle.build_join.proofs.Rings.{fewer}
use Rattle.build_join.proofs.Stems.{disagrees, agrees-last, agrees_on}
use Rattle.build_join.proofs.ring.ring_agrees.Given as goal

abbrev pub invariant-loop-first : goal.invariant-loop-first
invariant-loop-first l = (l.ix < most_segments) × (ends (next_in l.next) most_segments l.last most_segments l.ix ≡ true)
    × (stems_agree l.stems l.near l.stem (walk (next_in l.next) l.last most_segments l.ix)
    ≡ stems_agree l.stems l.near l.stem (walk (next_in l.next) l.last most_segments l.initial.ix))

abbrev pub decreases-loop-first : goal.decreases-loop-first
decreases-loop-first l = length (walk (next_in l.next) l.last most_segments l.ix)
