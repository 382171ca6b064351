-- `shown_picture::window::extremes_of` meets its contract. The invariant: the extremes are those of what was passed.
use Rattle.shown_picture.proofs.Extremes.{spread-more}
use Rattle.shown_picture.proofs.window.extremes_of.Goals as goal

pub loop-i-preserved : goal.loop-i-preserved
loop-i-preserved c = spread-more _ _ _ _ _ _ c.loop-i.invariant c.lesser-least.ensures c.greater-largest.ensures
