-- `shown_walk::cross_outline` meets its contract. The invariant: the lines of the contours that are left are left to add.
use mathlib.Core.Bool.{true}
use mathlib.Core.Path.{◌≡◌}
use lib.ListN.{length, drop}
use Rattle.weak.specs.Weak.{ends_hold}
use Rattle.path_trip.specs.Path.{points}
use Rattle.shown.specs.Shown.{lines_of}
use Rattle.shown_lines.specs.Lines.{field_half}
use Rattle.shown_lines.proofs.Winding.{Owing}
use Rattle.shown_walk.proofs.cross_outline.Given as goal

abbrev pub invariant-loop-end : goal.invariant-loop-end
invariant-loop-end l = (ends_hold l.a (length l.xs) (drop l.end-index l.ends) ≡ true) × Owing l.left l.y l.initial.changes (lines_of field_half l.magnify (points l.xs l.ys l.marks) 0 l.ends) l.changes
    (lines_of field_half l.magnify (points l.xs l.ys l.marks) l.a (drop l.end-index l.ends))
