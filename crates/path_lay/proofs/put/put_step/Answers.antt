-- `path_lay::put::put_step` meets its contract.
use mathlib.Core.Path.{refl, ap, ◌∙◌}
use mathlib.Core.List.{List}
use Prim.Native.Nat.{◌+◌, ◌*◌}
use lib.Ieee.{Float}
use Rattle.path_lay.specs.Laying.{pair_at}
use Rattle.path_lay.proofs.put.put_step.Goals as goal

pub returns : goal.returns
returns c = (
  refl,
  c.put_place-2.ensures ∙ ap (λ (l : List Float). pair_at l (4 * c.args.count + 2) c.args.u c.args.v)
      c.put_place.ensures,
)
