-- `weak_known::same::plain_same` meets its contract. The invariant: the entries passed are compared.
use native.Mathlib.Omega.{arith}
use mathlib.Core.Path.{◌≡◌, refl}
use Rattle.weak_known.specs.Walks.{plain_at}
use Rattle.weak_known.proofs.Walking.{walk_none, walk-to}
use Rattle.weak_known.proofs.same.plain_same.Goals as goal

pub loop-i-init : goal.loop-i-init
loop-i-init c = walk_none _ _ _

pub loop-i-preserved : goal.loop-i-preserved
unfolding plain_at
loop-i-preserved c = walk-to _ _ _ _ _ _ _ (omega arith) c.loop-i.invariant refl (λ _. c.number-x.ensures)

pub returns : goal.returns
returns c = let e : c.loop-i.i ≡ c.args.e = omega arith in
    rw e at c.loop-i.invariant
