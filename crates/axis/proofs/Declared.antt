-- What every value of the declared types meets (specs/Handed.antt), by the kit's own meaning of them. At the entry of a function `c.good` has this relation
-- for each
-- parameter, in their order, so that `typed-segment c.args.s _ c.good.0` is what a proof there writes.
use Rattle.std.specs.Prelude.{None, Some}
use mathlib.Core.Path.{sym, ◌∙◌}
use mathlib.Core.List.{List, [], ◌∷◌, map}
use Prim.Native.Nat.{ℕ, zero, suc}
use native.Mathlib.Omega.{arith}
use lib.ListN.{get_or, length-map}
use mir.Val.{Val}
use denote.Array.{each}
use denote.Builtin.{u16}
use denote.Enum.Declared as Enum
use denote.Laws.{Is}
use denote.Shadow.{shadow}
use denote.Struct.Declared.{row}
use Rattle.signed.proofs.Reading.{short}
use Rattle.axis.specs.declared.edge.Axis.{Axis}
use Rattle.axis.specs.declared.edge.Edge.{Edge}
use Rattle.axis.specs.Link.{Link}
use Rattle.axis.specs.declared.segment.Segment.{Segment}
use Rattle.axis.specs.declared.segment.Segments.{Segments}
use Rattle.axis.specs.Accepted.{Below}
use Rattle.axis.specs.Handed.{TypedSegment, Typed, TypedEdge, TypedAxis}
use Rattle.axis.specs.Segment.{empty_segment}
use Rattle.axis.proofs.Acceptance.{below_none, below-to}
use Rattle.axis.specs.contracts.edge.Axis as AxisType
use Rattle.axis.specs.contracts.edge.Edge as EdgeType
use Rattle.std.specs.contracts.option.Option.{the_row as OptionOf}
use Rattle.axis.specs.contracts.segment.Segment as SegmentType
use Rattle.axis.specs.contracts.segment.Segments as SegmentsType

-- ---- segments
pub typed-segment : (s : Segment) (vs : List Val) → Is (row SegmentType.the_type) s vs → TypedSegment s
typed-segment s vs p =
    let f = p.1.1 in
    record { pos = short s.pos f.1.1.0.1; low = short s.min_coord f.1.1.1.1.0.1; high = short s.max_coord f.1.1.1.1.1.0.1 }

pub empty-typed : TypedSegment empty_segment
empty-typed = record { pos = omega arith; low = omega arith; high = omega arith }

-- each of a list of them, and what stands behind its end
all_typed : (ss : List Segment) (us : List Val) → shadow
    (each (SegmentType.the_row).Denot (SegmentType.the_row).own_val ss us)
    → (i : ℕ) → TypedSegment (get_or ss i empty_segment)
all_typed [] us p i = empty-typed
all_typed (s ∷ ss) [] p i = absurd p
all_typed (s ∷ ss) (u ∷ us) p zero = typed-segment s (u ∷ []) p.0
all_typed (s ∷ ss) (u ∷ us) p (suc i) = all_typed ss us p.1 i

pub typed : (t : Segments) (vs : List Val) → Is (row SegmentsType.the_type) t vs → Typed t
typed t vs p =
    let q = p.1.1.0 in
    record { places = q.1.0.1; segment = all_typed t.segments q.0 q.1.1 }

-- ---- edges
typed-link : (l : Link) (vs : List Val) → Is (OptionOf u16) l vs → Below 65536 l
typed-link None vs p = below_none 65536
typed-link (Some k) vs p = below-to 65536 k p.1.1.1.1.0.1

pub typed-edge : (e : Edge) (vs : List Val) → Is (row EdgeType.the_type) e vs → TypedEdge e
typed-edge e vs p =
    let f = p.1.1 in
    let links = f.1.1.1.1.1.1 in
    record {
      fpos = short e.fpos f.0.1;
      link = typed-link e.link _ links.0;
      serif = typed-link e.serif _ links.1.0;
      first = links.1.1.0.1;
      last = links.1.1.1.0.1;
    }

pub typed-axis : (axis : Axis) (vs : List Val) → Is (row AxisType.the_type) axis vs → TypedAxis axis
typed-axis axis vs p = record { places = p.1.1.1.1.0.1.0.1 }
