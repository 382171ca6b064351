-- `remaining::plan::pos_holds` meets its contract.
use borrow.Author.Rules.{rules}
use mathlib.Core.Path.{refl}
use lib.IntN.{pos, neg_ℤ}
use Rattle.signed.proofs.Signed.{is}
use Rattle.axis.specs.Limits.{most_pos}
use Rattle.axis.proofs.Tests.{inside-high, inside-low}
use Rattle.remaining.proofs.plan.pos_holds.Goals as goal

pub returns-then-pos : goal.returns-then-pos
returns-then-pos c = inside-high (neg_ℤ (pos most_pos)) (pos most_pos) _ _ _ _ refl refl (is c.ranges.pos) c.if-pos.true

pub returns : goal.returns
returns c = inside-low (neg_ℤ (pos most_pos)) (pos most_pos) _ _ _ refl (is c.ranges.pos) c.if-pos.false
