-- `build_properties::properties::compute_edge_properties` meets its contract: each inner turn is the visit of one segment.
use borrow.Author.Rules.{rules}
use native.Mathlib.Omega.{arith}
use mathlib.Core.Path.{◌≡◌, sym}
use Prim.Native.Nat.{◌-◌, ◌<◌, ◌≤◌}
use lib.ListN.{length}
use Rattle.axis.specs.declared.edge.Axis.{Axis}
use Rattle.axis.specs.Edge.{edge_at, put_edge}
use Rattle.axis.specs.Limits.{most_edges, most_segments}
use Rattle.axis.specs.Ring.{next_of, walk}
use Rattle.axis.proofs.Rings.{walk-passes, shorter}
use Rattle.build_properties.specs.Properties as P
use Rattle.build_properties.specs.Steps.{Ready}
use Rattle.build_properties.proofs.Kept.{Kept, start-kept, edges-kept, member-kept, ready-kept, serif-inside, link-inside, held-inside, joined-inside}
use Rattle.build_properties.proofs.Turns.{Along, Counted, member_is, along-start, along-more, along-end, edges_none, edges_more}
use Rattle.build_properties.proofs.properties.compute_edge_properties.Goals as goal
use Rattle.build_properties.proofs.properties.compute_edge_properties.Goals.{After-edge2_at-edge2_ix, After-edge2_at-held_ix, After-flagged, After-link_at-link_ix, After-serif_at-serif_ix, At-loop-roundness, Joined-segment, else-segment, then-segment}

pub loop-edge_ix-init : goal.loop-edge_ix-init
loop-edge_ix-init c = (omega arith, c.requires.few-edges, edges_none _ _)

pub offset_bounds-table-edge_ix : goal.offset_bounds-table-edge_ix
offset_bounds-table-edge_ix c = omega arith

pub bounds-table-edge_ix : goal.bounds-table-edge_ix
bounds-table-edge_ix c = omega arith

pub overflow_cast-last_segment_ix : goal.overflow_cast-last_segment_ix
overflow_cast-last_segment_ix c = omega arith

pub overflow_cast-segment_ix : goal.overflow_cast-segment_ix
overflow_cast-segment_ix c = omega arith

pub loop-roundness-init : goal.loop-roundness-init
loop-roundness-init c =
    let in-loop = c.before.before.before in
    let outer = in-loop.before in
    let start = outer.before in
    let k = outer.loop-edge_ix.edge_ix in
    let kept = edges-kept start.args.axis start.args.segments start.requires k outer.loop-edge_ix.invariant.0 in
    let here : Kept start.args.axis outer.loop-edge_ix.table = rw outer.loop-edge_ix.invariant.2 kept in
    let ready = ready-kept start.args.axis start.args.segments start.requires outer.loop-edge_ix.table here in
    let less : k < outer.loop-edge_ix.table.len = rw here.len in-loop.loop-edge_ix-test.true in
    let ring = ready.rings.ring k less in (
      in-loop.loop-edge_ix-test.true,
      outer.loop-edge_ix.invariant.1,
      omega (arith, ring.starts, ready.few-segments),
      sym here.len,
      ready,
      start-kept outer.loop-edge_ix.table start.args.segments ready,
      along-start start.args.segments k _ _ outer.loop-edge_ix.table ring,
    )

pub offset_bounds-table-edge_ix-in-loop-roundness : goal.offset_bounds-table-edge_ix-in-loop-roundness
offset_bounds-table-edge_ix-in-loop-roundness c = omega arith

pub bounds-table-edge_ix-in-loop-roundness : goal.bounds-table-edge_ix-in-loop-roundness
bounds-table-edge_ix-in-loop-roundness c = omega arith

pub offset_bounds-segments-segment_ix : goal.offset_bounds-segments-segment_ix
offset_bounds-segments-segment_ix c = omega arith

pub bounds-segments-segment_ix : goal.bounds-segments-segment_ix
bounds-segments-segment_ix c = omega arith

pub overflow_add-roundness : goal.overflow_add-roundness
overflow_add-roundness c = let inner = c.before.before.before in omega (arith, inner.loop-roundness.invariant.6.short)

pub overflow_add-straightness : goal.overflow_add-straightness
overflow_add-straightness c = let inner = c.before.before.before in omega (arith, inner.loop-roundness.invariant.6.short)

-- the two segments that a segment names are in the table
serif-at-inside : (c : After-serif_at-serif_ix) → c.serif_at-serif_ix.result < most_segments
serif-at-inside c =
    let inner = c.before.before.before.before in
    let inv = inner.loop-roundness.invariant in
    serif-inside _ _ inv.4 inner.loop-roundness.segment_ix c.serif_at-serif_ix.result inv.6.inside c.serif_at-serif_ix.ensures

link-at-inside : (c : After-link_at-link_ix) → c.link_at-link_ix.result < most_segments
link-at-inside c =
    let inner = c.before.before.before.before.before in
    let inv = inner.loop-roundness.invariant in
    link-inside _ _ inv.4 inner.loop-roundness.segment_ix c.link_at-link_ix.result inv.6.inside c.link_at-link_ix.ensures

pub offset_bounds-segments-serif_ix : goal.offset_bounds-segments-serif_ix
offset_bounds-segments-serif_ix c = omega (arith, serif-at-inside c.before)

pub bounds-segments-serif_ix : goal.bounds-segments-serif_ix
bounds-segments-serif_ix c = serif-at-inside c.before

pub offset_bounds-segments-link_ix : goal.offset_bounds-segments-link_ix
offset_bounds-segments-link_ix c = omega (arith, link-at-inside c.before)

pub bounds-segments-link_ix : goal.bounds-segments-link_ix
bounds-segments-link_ix c = link-at-inside c.before

-- the edge that is held is in the table
held-at-inside : (c : After-edge2_at-held_ix) → c.edge2_at-held_ix.result < most_edges
held-at-inside c =
    let inner = c.before.before.before.before.before.before.before.before.before in
    let outer = inner.before.before.before.before.before in
    let inv = inner.loop-roundness.invariant in
    let less : outer.loop-edge_ix.edge_ix < outer.loop-edge_ix.table.len = omega (arith, inv.0, inv.3) in
    held-inside _ _ inv.4 outer.loop-edge_ix.edge_ix c.edge2_at-held_ix.result c.join_of-join.result.is_serif
    (edge_at inner.loop-roundness.table outer.loop-edge_ix.edge_ix) less
    (inv.5.edge outer.loop-edge_ix.edge_ix less) c.edge2_at-held_ix.ensures

pub offset_bounds-table-held_ix : goal.offset_bounds-table-held_ix
offset_bounds-table-held_ix c = omega (arith, held-at-inside c)

pub bounds-table-held_ix : goal.bounds-table-held_ix
bounds-table-held_ix c = held-at-inside c

pub offset_bounds-table-edge_ix-in-loop-roundness-2 : goal.offset_bounds-table-edge_ix-in-loop-roundness-2
offset_bounds-table-edge_ix-in-loop-roundness-2 c = omega arith

pub bounds-table-edge_ix-in-loop-roundness-2 : goal.bounds-table-edge_ix-in-loop-roundness-2
bounds-table-edge_ix-in-loop-roundness-2 c = omega arith

-- and so is the one that is joined
edge2-at-inside : (c : After-edge2_at-edge2_ix) → c.edge2_at-edge2_ix.result < most_edges
edge2-at-inside c =
    let joined_to = c.before in
    let join-of = joined_to.before.before.before in
    let link_at = join-of.before.before.before in
    let serif-at = link_at.before in
    let inner = serif-at.before.before.before.before in
    let outer = inner.before.before.before.before.before in
    let inv = inner.loop-roundness.invariant in
    let less : outer.loop-edge_ix.edge_ix < outer.loop-edge_ix.table.len = omega (arith, inv.0, inv.3) in
    joined-inside _ _ inv.4 inner.loop-roundness.table outer.loop-edge_ix.edge_ix inner.loop-roundness.segment_ix _ _ _ _ _ _ less inv.6.inside inv.5
    serif-at.serif_at-serif_ix.ensures
    link_at.link_at-link_ix.ensures join-of.join_of-join.ensures joined_to.joined_to-joined.ensures c.edge2_at-edge2_ix.ensures

pub offset_bounds-table-edge2_ix : goal.offset_bounds-table-edge2_ix
offset_bounds-table-edge2_ix c = omega (arith, edge2-at-inside c)

pub bounds-table-edge2_ix : goal.bounds-table-edge2_ix
bounds-table-edge2_ix c = edge2-at-inside c

pub offset_bounds-table-edge2_ix-in-loop-roundness : goal.offset_bounds-table-edge2_ix-in-loop-roundness
offset_bounds-table-edge2_ix-in-loop-roundness c = omega (arith, edge2-at-inside c.before.before)

pub bounds-table-edge2_ix-in-loop-roundness : goal.bounds-table-edge2_ix-in-loop-roundness
bounds-table-edge2_ix-in-loop-roundness c = edge2-at-inside c.before.before

-- where an inner turn starts
abbrev inner_of : After-flagged → At-loop-roundness
inner_of c = c.before.before.before.before.before.before.before.before.before.before.before.before.before.before

-- the segment is counted
counted : (c : Joined-segment)
    → let inner = c.before.before.before in
    let t = inner.args.segments in
    Counted t inner.loop-roundness.segment_ix inner.loop-roundness.roundness inner.loop-roundness.straightness c.if-segment.roundness c.if-segment.straightness
counted c =
    elim c.if-segment.branch [
      | then-segment w ↦ record { round = rw w.if-segment.true w.roundness-is; straight = rw w.if-segment.true (omega (arith, w.straightness-is)) }
      | else-segment w ↦ record { round = rw w.if-segment.false (omega (arith, w.roundness-is)); straight = rw w.if-segment.false w.straightness-is }
    ]

-- the table behind it
abbrev now : After-flagged → Axis
now c =
    let inner = inner_of c in
    let joined = put_edge inner.loop-roundness.table inner.loop-edge_ix.edge_ix c.joined_to-joined.result in
    put_edge joined c.edge2_at-edge2_ix.result c.flagged.result

-- is that of one visit
visited : (c : After-flagged)
    → let inner = inner_of c in
    now c ≡ P.member inner.args.segments inner.loop-edge_ix.edge_ix
    inner.loop-roundness.segment_ix inner.loop-roundness.table
visited c =
    let edge2-at2 = c.before.before in
    let joined_to = edge2-at2.before in
    let edge2-at = joined_to.before.before in
    let join-of = edge2-at.before in
    let link_at = join-of.before.before.before in
    let serif-at = link_at.before in
    let inner = serif-at.before.before.before.before in
    let outer = inner.before.before.before.before.before in
    member_is outer.args.segments inner.loop-roundness.table outer.loop-edge_ix.edge_ix inner.loop-roundness.segment_ix _ _ _ _ _ _ _ serif-at.serif_at-serif_ix.ensures
    link_at.link_at-link_ix.ensures
    join-of.join_of-join.ensures edge2-at.edge2_at-held_ix.ensures joined_to.joined_to-joined.ensures edge2-at2.edge2_at-edge2_ix.ensures c.flagged.ensures

pub loop-roundness-smaller : goal.loop-roundness-smaller
loop-roundness-smaller c =
    let else2 = c.before in
    let inner = inner_of else2.before in
    let outer = inner in
    let t = outer.args.segments in
    let last = (edge_at outer.loop-edge_ix.table outer.loop-edge_ix.edge_ix).last in
    let ix = inner.loop-roundness.segment_ix in
    let p = walk-passes (next_of t last) t.len last most_segments ix else2.if-segment_ix-last_segment_ix.false inner.loop-roundness.invariant.6.stops in
    rw c.next_at-segment_ix.ensures (omega (arith, shorter (next_of t last) t.len last most_segments ix p))

pub loop-roundness-preserved : goal.loop-roundness-preserved
loop-roundness-preserved c =
    let else2 = c.before in
    let flagged = else2.before in
    let inner = inner_of flagged in
    let outer = inner in
    let start = outer in
    let inv = inner.loop-roundness.invariant in
    let less : outer.loop-edge_ix.edge_ix < outer.loop-edge_ix.table.len = omega (arith, inv.0, inv.3) in
    let more = along-more start.args.segments outer.loop-edge_ix.edge_ix _ _ outer.loop-edge_ix.table inner.loop-roundness.table inner.loop-roundness.segment_ix
    inner.loop-roundness.roundness
    inner.loop-roundness.straightness inv.6 (now flagged) _ _ (visited flagged)
    (counted flagged.before.before.before.before.before.before.before.before.before.before.before)
    else2.if-segment_ix-last_segment_ix.false in (
      inv.0,
      inv.1,
      omega (arith, more.inside, inv.4.few-segments, c.next_at-segment_ix.ensures),
      inv.3,
      inv.4,
      rw (visited flagged) (member-kept outer.loop-edge_ix.table start.args.segments inv.4 outer.loop-edge_ix.edge_ix less inner.loop-roundness.segment_ix
          inner.loop-roundness.table inv.6.inside inv.5),
      rw c.next_at-segment_ix.ensures more,
    )

pub offset_bounds-table-edge_ix-in-loop-edge_ix : goal.offset_bounds-table-edge_ix-in-loop-edge_ix
offset_bounds-table-edge_ix-in-loop-edge_ix c = let inv = (inner_of c.before).loop-roundness.invariant in omega (arith, inv.0, inv.1)

pub bounds-table-edge_ix-in-loop-edge_ix : goal.bounds-table-edge_ix-in-loop-edge_ix
bounds-table-edge_ix-in-loop-edge_ix c = let inv = (inner_of c.before).loop-roundness.invariant in omega (arith, inv.0, inv.1)

pub offset_bounds-table-edge_ix-in-loop-edge_ix-2 : goal.offset_bounds-table-edge_ix-in-loop-edge_ix-2
offset_bounds-table-edge_ix-in-loop-edge_ix-2 c = let inv = (inner_of c.before.before.before).loop-roundness.invariant in omega (arith, inv.0, inv.1)

pub bounds-table-edge_ix-in-loop-edge_ix-2 : goal.bounds-table-edge_ix-in-loop-edge_ix-2
bounds-table-edge_ix-in-loop-edge_ix-2 c = let inv = (inner_of c.before.before.before).loop-roundness.invariant in omega (arith, inv.0, inv.1)

pub overflow_step-edge_ix : goal.overflow_step-edge_ix
overflow_step-edge_ix c = let inv = (inner_of c.before.before.before).loop-roundness.invariant in omega (arith, inv.0, inv.1)

pub loop-edge_ix-smaller : goal.loop-edge_ix-smaller
loop-edge_ix-smaller c = let inv = (inner_of c.before.before.before).loop-roundness.invariant in omega (arith, inv.0, inv.1)

pub loop-edge_ix-preserved : goal.loop-edge_ix-preserved
loop-edge_ix-preserved c =
    let then2 = c.before.before in
    let flagged = then2.before in
    let inner = inner_of flagged in
    let outer = inner in
    let start = outer in
    let inv = inner.loop-roundness.invariant in (
      omega (arith, inv.0),
      outer.loop-edge_ix.invariant.1,
      edges_more start.args.segments outer.loop-edge_ix.edge_ix start.args.axis outer.loop-edge_ix.table _ outer.loop-edge_ix.invariant.2
          (along-end start.args.segments outer.loop-edge_ix.edge_ix _ _ outer.loop-edge_ix.table inner.loop-roundness.table inner.loop-roundness.segment_ix
          inner.loop-roundness.roundness
          inner.loop-roundness.straightness inv.6 (now flagged) _ _ (visited flagged)
          (counted flagged.before.before.before.before.before.before.before.before.before.before.before) c.with_properties.result
          then2.if-segment_ix-last_segment_ix.true c.with_properties.ensures),
    )

pub returns : goal.returns
unfolding P.edge_properties
returns c =
    let outer = c.before in
    let at-end : outer.loop-edge_ix.edge_ix ≡ outer.args.axis.len = omega (arith, outer.loop-edge_ix.invariant.0, c.loop-edge_ix-test.false) in
    rw at-end at outer.loop-edge_ix.invariant.2
