-- `shown_picture::rows::count_rows` meets its contract. The invariant: the rows passed are counted, and the last of them is the row below.
use mathlib.Core.Path.{◌≡◌}
use Prim.Native.Nat.{◌+◌}
use lib.ListN.{length}
use Rattle.path_trip.specs.Path.{points}
use Rattle.shown_rows.specs.Rows.{CountsBy}
use Rattle.shown_picture.specs.Window.{picture}
use Rattle.shown_picture.specs.Rows.{shifted, rows_to}
use Rattle.shown_picture.proofs.Reading.{Lower}
use Rattle.shown_picture.proofs.rows.count_rows.Given as goal

abbrev pub invariant-loop-j : goal.invariant-loop-j
invariant-loop-j l = (length l.below ≡ l.window.columns + 1)
    × (length l.changes ≡ l.window.columns + 1)
    × Lower (shifted (picture l.magnify (points l.xs l.ys l.marks) l.ends) l.window.left l.window.low) (l.window.columns + 1) l.j l.below
    × CountsBy (λ f. rows_to f (shifted (picture l.magnify (points l.xs l.ys l.marks) l.ends) l.window.left l.window.low) (l.window.columns + 1) l.j) l.counts
