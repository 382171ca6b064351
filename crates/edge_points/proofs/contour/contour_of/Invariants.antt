-- `edge_points::contour::contour_of` meets its contract. The invariant: the contour is one of those that are left.
use mathlib.Core.Path.{◌≡◌}
use lib.ListN.{drop}
use Rattle.weak.specs.Weak.{contour_of}
use Rattle.edge_points.proofs.contour.contour_of.Given as goal

abbrev pub invariant-loop-end : goal.invariant-loop-end
invariant-loop-end l = contour_of 0 l.ends l.p ≡ contour_of l.start (drop l.end-index l.ends) l.p
