-- `place::adjust::has_passed` meets its contract.
use Rattle.signed.proofs.Signed.{is}
use Rattle.place.specs.Placing.{has_passed}
use borrow.Author.Rules.{rules}
use Rattle.place.proofs.adjust.has_passed.Goals as goal

pub returns-in-Prev : goal.returns-in-Prev
unfolding has_passed
returns-in-Prev c = let s = c in rw (c.in-Prev.is, is s.ranges.pos1, is s.ranges.pos2)

pub returns-in-Next : goal.returns-in-Next
unfolding has_passed
returns-in-Next c = let s = c in rw (c.in-Next.is, is s.ranges.pos1, is s.ranges.pos2)
