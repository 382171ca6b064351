-- `words_shape::element::range_of` meets its contract.
use native.Mathlib.Omega.{arith}
use mathlib.Core.Path.{sym, ap, subst}
use Prim.Native.Nat.{◌<◌}
use lib.ListN.{length, get_or}
use Rattle.words.specs.Edge.{edge_size}
use Rattle.words.specs.Segment.{segment_size}
use Rattle.words_shape.specs.declared.element.Record.{Record}
use Rattle.words_shape.specs.Shape.{no_range, ranges_of}
use Rattle.words_shape.proofs.element.range_of.Goals as goal
use Rattle.words_shape.proofs.element.range_of.Goals.{In-Edge, In-Segment}

-- the place is within the record at hand
within-segment : (c : In-Segment) → c.args.i < segment_size
within-segment c = let s = c.before in subst (λ (k : Record). s.args.i < length (ranges_of k)) c.in-Segment.is s.requires

within-edge : (c : In-Edge) → c.args.i < edge_size
within-edge c = let s = c.before in subst (λ (k : Record). s.args.i < length (ranges_of k)) c.in-Edge.is s.requires

pub offset_bounds-i : goal.offset_bounds-i
offset_bounds-i c = omega (arith, within-segment c)

pub bounds-i-i : goal.bounds-i-i
bounds-i-i c = within-segment c

pub offset_bounds-i-in-Edge : goal.offset_bounds-i-in-Edge
offset_bounds-i-in-Edge c = omega (arith, within-edge c)

pub bounds-i-i-in-Edge : goal.bounds-i-i-in-Edge
bounds-i-i-in-Edge c = within-edge c

pub returns-in-Segment : goal.returns-in-Segment
returns-in-Segment c = let e = c.before in sym (ap (λ (k : Record). get_or (ranges_of k) e.args.i no_range) e.in-Segment.is)

pub returns-in-Edge : goal.returns-in-Edge
returns-in-Edge c = let e = c.before in sym (ap (λ (k : Record). get_or (ranges_of k) e.args.i no_range) e.in-Edge.is)
