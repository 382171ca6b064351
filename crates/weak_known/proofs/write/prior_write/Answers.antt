-- `weak_known::write::prior_write` meets its contract. The invariant: the entries passed are written.
use native.Mathlib.Omega.{arith}
use mathlib.Core.Path.{◌≡◌}
use Rattle.weak_known.proofs.Walking.{put-none, put-more, held_none, prior-number, prior-held}
use Rattle.weak_known.proofs.write.prior_write.Goals as goal

pub loop-i-init : goal.loop-i-init
loop-i-init c = (put-none _ _ _, held_none _ _ _)

pub loop-i-preserved : goal.loop-i-preserved
loop-i-preserved c = let v = c.loop-i.invariant in
    let t = c.args.touched.now in (
      put-more _ _ _ _ _ _ (omega arith) (omega arith) v.0
          (prior-number t c.args.s c.args.last c.loop-i.i _ _ c.number-x.ensures v.1),
      prior-held t c.args.s c.args.last c.loop-i.i _ _ (omega arith) c.handed-held.ensures v.1,
    )

pub returns : goal.returns
returns c = let e : c.loop-i.i ≡ c.args.e = omega arith in
    rw e at c.loop-i.invariant.0
