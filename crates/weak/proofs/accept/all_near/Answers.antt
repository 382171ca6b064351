-- `weak::accept::all_near` meets its contract.
use mathlib.Core.Path.{sym, ◌∙◌}
use Rattle.weak.proofs.Refusals.{near-not, near-then}
use Rattle.weak.proofs.accept.all_near.Goals as goal

pub returns-then-not-coordinates_hold : goal.returns-then-not-coordinates_hold
returns-then-not-coordinates_hold c = near-not _ _ (sym c.coordinates_hold.ensures ∙ c.if-not-coordinates_hold.true)

pub returns : goal.returns
returns c = near-then _ _ _ (sym c.coordinates_hold.ensures ∙ c.if-not-coordinates_hold.false) c.coordinates_hold-2.ensures
