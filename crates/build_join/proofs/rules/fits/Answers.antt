-- `build_join::rules::fits` meets its contract: by its tests.
use mathlib.Core.Path.{◌∙◌}
use Rattle.axis.proofs.Equal.{same-directions}
use Rattle.build_join.proofs.Searching.{fits-far, fits-near, fits-directed}
use Rattle.build_join.proofs.rules.fits.Goals as goal

pub returns-then-limit-distance_to : goal.returns-then-limit-distance_to
returns-then-limit-distance_to c = fits-far _ _ _ _ _ c.distance_to.ensures c.if-limit-distance_to.true

pub returns-then-second : goal.returns-then-second
returns-then-second c = fits-near _ _ _ _ _ c.distance_to.ensures c.if-limit-distance_to.false c.if-second.true

pub returns : goal.returns
returns c = fits-directed _ _ _ _ _ c.distance_to.ensures c.if-limit-distance_to.false c.if-second.false _ (c.eq.ensures ∙ same-directions _ _)
