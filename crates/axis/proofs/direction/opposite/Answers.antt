-- `axis::direction::opposite` meets its contract: by the five cases of the first direction.
use mathlib.Core.Path.{◌∙◌}
use Rattle.axis.specs.Direction.{opposite, same}
use Rattle.axis.proofs.Equal.{same-directions}
use Rattle.axis.proofs.direction.opposite.Goals as goal

pub returns-in-None : goal.returns-in-None
unfolding opposite
returns-in-None c = rw c.in-None.is

pub returns-in-Right : goal.returns-in-Right
unfolding opposite
returns-in-Right c = rw c.in-Right.is (c.eq.ensures ∙ same-directions _ _)

pub returns-in-Left : goal.returns-in-Left
unfolding opposite
returns-in-Left c = rw c.in-Left.is (c.eq-in-Left.ensures ∙ same-directions _ _)

pub returns-in-Up : goal.returns-in-Up
unfolding opposite
returns-in-Up c = rw c.in-Up.is (c.eq-in-Up.ensures ∙ same-directions _ _)

pub returns-in-Down : goal.returns-in-Down
unfolding opposite
returns-in-Down c = rw c.in-Down.is (c.eq-in-Down.ensures ∙ same-directions _ _)
