-- `weak_known::write::later_write` meets its contract. The invariant: the entries passed are written.
use native.Mathlib.Omega.{arith}
use mathlib.Core.Path.{◌≡◌}
use Rattle.weak_known.proofs.Walking.{put-none, put_front, held-end, later-number, later-held}
use Rattle.weak_known.proofs.write.later_write.Goals as goal

pub loop-i-init : goal.loop-i-init
loop-i-init c = (omega arith, put-none _ _ _, held-end _ _ _)

pub loop-i-preserved : goal.loop-i-preserved
loop-i-preserved c = let v = c.loop-i.invariant in
    let t = c.args.touched.now in (
      omega arith,
      put_front _ _ _ _ _ _ (omega arith) (omega arith) v.1
          (later-number t c.args.e c.args.first c.loop-i.i _ _ (omega arith) c.number-x.ensures v.2) (omega arith),
      later-held t c.args.e c.args.first c.loop-i.i _ _ (omega arith) (omega arith) c.handed-held.ensures v.2,
    )

pub returns : goal.returns
returns c = let e : c.loop-i.i ≡ c.args.s = omega arith in
    rw e at c.loop-i.invariant.1
