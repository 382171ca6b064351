-- `mend_words::plan::plan_in` meets its contract.
use native.Mathlib.Omega.{arith}
use borrow.Author.Rules.{rules}
use borrow.Author.Tests.{not-true, not-false}
use Rattle.mend_words.proofs.Planning.{not-planned, planned}
use Rattle.mend_words.proofs.plan.plan_in.Goals as goal

pub returns-then-not-all_named : goal.returns-then-not-all_named
returns-then-not-all_named c =
    not-planned _ _ c.requires.whole.0 c.requires.whole.1 c.requires.whole.2 _ _ _ _ _ c.gather_in.ensures.gathered c.tally.ensures _ c.all_named.ensures
    (c.if-not-all_named.true)

pub rebuild-requires : goal.rebuild-requires
rebuild-requires c =
    (c.requires.whole.0.few, c.tally.ensures.lows_size, c.gather_in.ensures.next_size)

pub returns : goal.returns
returns c =
    planned _ _ c.requires.whole.0 c.requires.whole.1 c.requires.whole.2 _ _ _ _ _ c.gather_in.ensures.gathered c.tally.ensures _ c.all_named.ensures
    c.if-not-all_named.false _ _ _
    c.find_broken.ensures c.rebuild.ensures
