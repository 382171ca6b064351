-- `link_words::serif::holds_in` meets its contract.
use mathlib.Core.Path.{refl}
use Prim.Native.Nat.{◌-◌, ◌<◌}
use native.Mathlib.Omega.{arith}
use Rattle.signed.specs.Range.{Between}
use Rattle.axis.specs.Limits.{most_score}
use Rattle.link_words.proofs.Serifs.{Holding, holds-start, holds-next, holds-break, holds-end}
use Rattle.link_words.proofs.serif.holds_in.Given as goal

abbrev pub invariant-loop-ix2 : goal.invariant-loop-ix2
invariant-loop-ix2 l = (l.ix1 < l.count) × (l.link1_ix < l.count) × Between 0 most_score l.seg1.score × Holding l.seg1 l.link1 l.ix1 l.link1_ix l.count l.initial.words l.words l.ix2

abbrev pub decreases-loop-ix2 : goal.decreases-loop-ix2
decreases-loop-ix2 l = l.count - l.ix2
