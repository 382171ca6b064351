-- `shown_picture::window::extremes_of` meets its contract. The invariant: the extremes are those of what was passed.
use Rattle.shown_picture.specs.Window.{Spread}
use Rattle.shown_picture.proofs.window.extremes_of.Given as goal

abbrev pub invariant-loop-i : goal.invariant-loop-i
invariant-loop-i l = Spread l.list l.i l.least l.largest
