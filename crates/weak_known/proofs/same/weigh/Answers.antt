-- `weak_known::same::weigh` meets its contract.
use mathlib.Core.Path.{refl}
use borrow.Author.Tests.{lt-ltb, le-ltb}
use Rattle.weak_known.proofs.Fitting.{weight-wrong, weight-by}
use Rattle.weak_known.proofs.same.weigh.Goals as goal

pub returns-then-not-front-rear : goal.returns-then-not-front-rear
returns-then-not-front-rear c = weight-wrong _ _ _ _ _ _ c.number-x.ensures refl refl c.if-not-front-rear.true

pub returns-then-mark-gt0 : goal.returns-then-mark-gt0
returns-then-mark-gt0 c = weight-by _ _ _ _ _ _ _ c.number-x.ensures refl refl c.if-not-front-rear.false
    (lt-ltb _ _ c.if-mark-gt0.true)

pub returns : goal.returns
returns c = weight-by _ _ _ _ _ _ _ c.number-x.ensures refl refl c.if-not-front-rear.false
    (le-ltb _ _ c.if-mark-gt0.false)
