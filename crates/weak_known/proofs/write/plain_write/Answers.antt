-- `weak_known::write::plain_write` meets its contract. The invariant: the entries passed are written.
use native.Mathlib.Omega.{arith}
use mathlib.Core.Path.{◌≡◌}
use Rattle.weak_known.specs.Walks.{plain_at}
use Rattle.weak_known.proofs.Walking.{put-more}
use Rattle.weak_known.proofs.write.plain_write.Goals as goal

pub loop-i-preserved : goal.loop-i-preserved
unfolding plain_at
loop-i-preserved c = put-more _ _ _ _ _ _ (omega arith) (omega arith) c.loop-i.invariant c.number-x.ensures

pub returns : goal.returns
returns c = let e : c.loop-i.i ≡ c.args.e = omega arith in
    rw e at c.loop-i.invariant
