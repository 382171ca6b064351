-- `path_lay::put::lay_line` meets its contract.
use mathlib.Core.Path.{refl}
use Rattle.path_trip.specs.declared.step.PathStep.TheVariants.{Line}
use Rattle.path_lay.proofs.Lays.{laid-is}
use Rattle.path_lay.proofs.put.lay_line.Goals as goal

pub returns : goal.returns
returns c = let p = c.args.p in
    laid-is _ _ _ (Line p) _ p c.no_place-none.result _ _ c.put_step.ensures refl refl c.no_place-none.ensures
