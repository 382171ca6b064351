-- `weak_known::matching::lists_match` meets its contract. The invariant: the contours passed match, and what is left decides.
use mathlib.Core.Path.{◌≡◌}
use Rattle.weak_known.specs.Known.{matches}
use Rattle.weak_known.proofs.Rounds.{Passed, left}
use Rattle.weak_known.proofs.matching.lists_match.Given as goal

abbrev pub invariant-loop-x : goal.invariant-loop-x
invariant-loop-x l = Passed l.touched l.ends l.s l.x-index × (matches l.touched l.ends l.before l.behind ≡ left l.touched l.ends l.before l.behind l.s)
