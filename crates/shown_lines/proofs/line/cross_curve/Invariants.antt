-- `shown_lines::line::cross_curve` meets its contract. The invariant: the lines from k / 16 on are left to add.
use mathlib.Core.Path.{◌≡◌}
use Prim.Native.Nat.{◌-◌, ◌<◌}
use Rattle.shown_rows.specs.Chains.{place_at}
use Rattle.shown_rows.specs.Crossing.{most_place}
use Rattle.shown_lines.specs.Lines.{curve_sides}
use Rattle.shown_lines.proofs.Winding.{Owing}
use Rattle.shown_lines.proofs.line.cross_curve.Given as goal

abbrev pub invariant-loop-k : goal.invariant-loop-k
invariant-loop-k l = (l.low ≡ place_at l.p.y l.c.y l.q.y l.k) × (l.low < most_place) × Owing l.left l.y l.initial.changes (curve_sides l.p l.c l.q 0 16) l.changes (curve_sides l.p l.c l.q l.k (16 - l.k))
