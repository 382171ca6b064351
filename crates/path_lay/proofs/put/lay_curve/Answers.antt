-- `path_lay::put::lay_curve` meets its contract.
use mathlib.Core.Path.{refl}
use Rattle.path_trip.specs.declared.step.PathStep.TheVariants.{Curve}
use Rattle.path_lay.proofs.Lays.{laid-is}
use Rattle.path_lay.proofs.put.lay_curve.Goals as goal

pub returns : goal.returns
returns c = let p = c.args.p in
    let q = c.args.q in
    laid-is _ _ _ (Curve p q) _ p q _ _ c.put_step.ensures refl refl refl
