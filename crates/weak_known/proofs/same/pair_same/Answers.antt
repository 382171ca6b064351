-- `weak_known::same::pair_same` meets its contract.
use mathlib.Core.Path.{refl}
use Rattle.weak_known.proofs.Fitting.{fits_by}
use Rattle.weak_known.proofs.same.pair_same.Goals as goal

pub returns : goal.returns
returns c = fits_by _ _ _ _ _ _ _ _ _ _ _ _ _ c.shown.ensures c.number-x.ensures c.shown-2.ensures c.number_by-y.ensures
    refl refl
