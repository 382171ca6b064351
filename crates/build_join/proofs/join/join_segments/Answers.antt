-- `build_join::join::join_segments` meets its contract: the tables are those of the state before each segment.
use borrow.Author.Rules.{rules}
use borrow.Author.Tests.{not-true, not-false}
use native.Mathlib.Omega.{arith}
use native.Mathlib.Nat.{lt_of_lt_of_le}
use mathlib.Core.Path.{◌≡◌, refl, sym, ◌∙◌}
use mathlib.Core.Bool.{false}
use Prim.Native.Nat.{◌-◌, ◌≤◌, ◌<◌}
use lib.ListN.{set}
use mir.Syntax.{w32}
use Rattle.signed.proofs.Signed.{fits-in}
use Rattle.axis.specs.Edge.{empty_edge}
use Rattle.axis.specs.Limits.{most_edges, most_segments}
use Rattle.axis.specs.Segment.{segment_at}
use Rattle.build_join.specs.Joining.{stops_behind, settle, skips, may_join, state_at}
use Rattle.signed.proofs.Reading.{back}
use Rattle.build_join.proofs.Settling.{settle-end, settle-stop, settle-on}
use Rattle.build_join.proofs.Turns.{
  Stands,
  place,
  left,
  stands-begun,
  turn-room,
  turn-skip,
  turn_last,
  turn-ring,
  may-said,
  search-start,
  search_no,
  search-yes,
  search-end,
  search-stop,
  turn-join,
  turn-none,
  turn-made,
  turn-full,
}
use Rattle.build_join.proofs.join.join_segments.Goals as goal
use Rattle.build_join.proofs.join.join_segments.Goals.{else-loop-ix-test, else-loop-k-test, then-loop-ix-test+then-stops_behind, then-loop-k-test+then-limit-eq0}

pub loop-i-init : goal.loop-i-init
loop-i-init c =
    (omega arith, stands-begun c.args.segments c.args.rules c.args.second c.args.joined c.requires.joined_value.0 c.requires.joined_value.1)

pub offset_bounds-segments-i : goal.offset_bounds-segments-i
offset_bounds-segments-i c = omega arith

pub bounds-segments-i : goal.bounds-segments-i
bounds-segments-i c = omega arith

pub skips-requires : goal.skips-requires
skips-requires c =
    c.requires.joinable.0.length

pub overflow_step-i : goal.overflow_step-i
overflow_step-i c = omega arith

pub loop-i-smaller-then-skips : goal.loop-i-smaller-then-skips
loop-i-smaller-then-skips c = omega arith

pub loop-i-preserved-then-skips : goal.loop-i-preserved-then-skips
loop-i-preserved-then-skips c = (
  omega arith,
  turn-skip c.args.segments c.args.rules c.args.second c.loop-i.i c.loop-i.axis c.loop-i.next c.requires.joinable.0.few
      c.requires.joinable.2 c.loop-i.invariant.1 (sym c.skips.ensures ∙ c.if-skips.true),
)

pub loop-k-init : goal.loop-k-init
loop-k-init c = (
  omega arith,
  turn-room c.args.segments c.args.rules c.args.second c.loop-i.i c.loop-i.axis c.loop-i.next c.requires.joinable.0.few
      c.requires.joinable.2 c.loop-i.invariant.1 c.loop-i.invariant.0,
  omega arith,
  search-start c.args.segments c.args.rules c.args.second c.loop-i.i c.loop-i.axis c.loop-i.next
      c.requires.joinable.0.few c.requires.joinable.2
      c.loop-i.invariant.1,
)

pub offset_bounds-axis-k : goal.offset_bounds-axis-k
offset_bounds-axis-k c = omega arith

pub bounds-axis-k : goal.bounds-axis-k
bounds-axis-k c = omega arith

pub may_join-requires : goal.may_join-requires
may_join-requires c =
    let r = turn-ring c.args.segments c.args.rules c.args.second c.loop-i.i c.loop-i.axis c.loop-i.next
    c.requires.joinable.0.few c.requires.joinable.2
    c.loop-i.invariant.1 c.loop-i-test.true _ c.loop-k-test.true in
    (omega arith, r.0, r.1)

pub overflow_step-k : goal.overflow_step-k
overflow_step-k c = omega arith

pub loop-k-smaller-then-not-may_join : goal.loop-k-smaller-then-not-may_join
loop-k-smaller-then-not-may_join c = omega arith

pub loop-k-preserved-then-not-may_join : goal.loop-k-preserved-then-not-may_join
loop-k-preserved-then-not-may_join c =
    let said : c.may_join.result ≡ may_join c.args.segments c.args.rules c.args.second (state_at c.args.segments c.args.rules c.args.second c.loop-i.i) c.loop-i.i c.loop-k.k c.loop-k.limit =
    may-said c.args.segments c.args.rules c.args.second c.loop-i.i c.loop-i.axis c.loop-i.next c.requires.joinable.0.few
    c.requires.joinable.2
    c.loop-i.invariant.1 c.loop-i-test.true _ c.loop-k-test.true _ _ _ c.requires.joinable.1 c.may_join.ensures in (
      omega arith,
      c.loop-k.invariant.1,
      c.loop-k.invariant.2,
      search_no c.args.segments c.args.rules c.args.second c.loop-i.i c.loop-i.axis
          c.loop-i.next c.requires.joinable.0.few c.requires.joinable.2 c.loop-i.invariant.1 c.loop-i-test.true _ c.loop-k-test.true _
          _ _
          c.loop-k.invariant.3 _ said (c.if-not-may_join.true),
    )

pub overflow_step-k-in-loop-k : goal.overflow_step-k-in-loop-k
overflow_step-k-in-loop-k c = omega arith

pub loop-k-smaller : goal.loop-k-smaller
loop-k-smaller c = omega arith

pub loop-k-preserved : goal.loop-k-preserved
loop-k-preserved c =
    let said : c.may_join.result ≡ may_join c.args.segments c.args.rules c.args.second (state_at c.args.segments c.args.rules c.args.second c.loop-i.i) c.loop-i.i c.loop-k.k c.loop-k.limit =
    may-said c.args.segments c.args.rules c.args.second c.loop-i.i c.loop-i.axis c.loop-i.next c.requires.joinable.0.few
    c.requires.joinable.2
    c.loop-i.invariant.1 c.loop-i-test.true _ c.loop-k-test.true _ _ _ c.requires.joinable.1 c.may_join.ensures in (
      omega arith,
      c.loop-k.invariant.1,
      omega arith,
      search-yes c.args.segments c.args.rules c.args.second c.loop-i.i c.loop-i.axis c.loop-i.next
          c.requires.joinable.0.few c.requires.joinable.2 c.loop-i.invariant.1 c.loop-i-test.true _ c.loop-k-test.true _ _ _
          c.loop-k.invariant.3 _ said
          (c.if-not-may_join.false) _ c.limit_behind-limit.ensures,
    )

pub offset_bounds-axis-best : goal.offset_bounds-axis-best
offset_bounds-axis-best c = omega arith

pub bounds-axis-best : goal.bounds-axis-best
bounds-axis-best c = omega arith

pub overflow_cast-i : goal.overflow_cast-i
overflow_cast-i c = omega arith

pub append-requires : goal.append-requires
append-requires c = (
  omega arith,
  turn_last c.args.segments c.args.rules c.args.second c.loop-i.i c.loop-i.axis c.loop-i.next c.requires.joinable.0.few
      c.requires.joinable.2 c.loop-i.invariant.1 c.loop-i-test.true _ c.if-best-edges.true,
)

pub overflow_cast-i-then-best-edges : goal.overflow_cast-i-then-best-edges
overflow_cast-i-then-best-edges c = omega arith

pub offset_bounds-axis-best-then-best-edges : goal.offset_bounds-axis-best-then-best-edges
offset_bounds-axis-best-then-best-edges c = omega arith

pub bounds-axis-best-then-best-edges : goal.bounds-axis-best-then-best-edges
bounds-axis-best-then-best-edges c = omega arith

pub overflow_step-i-then-best-edges : goal.overflow_step-i-then-best-edges
overflow_step-i-then-best-edges c = omega arith

pub loop-i-smaller-then-best-edges : goal.loop-i-smaller-then-best-edges
loop-i-smaller-then-best-edges c = omega arith

pub loop-i-preserved-then-best-edges : goal.loop-i-preserved-then-best-edges
loop-i-preserved-then-best-edges c =
    let free : skips c.args.rules c.args.second (segment_at c.args.segments c.loop-i.i) ≡ false =
    sym c.skips.ensures ∙ c.if-skips.false in
    let found : place c.args.segments c.args.rules c.args.second c.loop-i.i ≡ c.loop-k.best =
    elim c.loop-k-test.branch [
      | else-loop-k-test w ↦ search-end c.args.segments c.args.rules c.args.second c.loop-i.i c.loop-i.axis c.loop-i.next
          c.requires.joinable.0.few c.requires.joinable.2
          c.loop-i.invariant.1 c.loop-i-test.true _ _ _ _ c.loop-k.invariant.3 w.loop-k-test.false
      | then-loop-k-test+then-limit-eq0 w ↦ search-stop c.args.segments c.args.rules c.args.second c.loop-i.i c.loop-i.axis c.loop-i.next
          c.requires.joinable.0.few c.requires.joinable.2
          c.loop-i.invariant.1 c.loop-i-test.true _ _ _ _ c.loop-k.invariant.3 w.if-limit-eq0.true
    ] in (
      omega arith,
      turn-join c.args.segments c.args.rules c.args.second c.loop-i.i c.loop-i.axis c.loop-i.next c.requires.joinable.0.few
          c.requires.joinable.2 c.loop-i.invariant.1 c.loop-i-test.true free _ found _ _ c.if-best-edges.true
          c.with_last.ensures c.append.ensures,
    )

pub overflow_step-i-then-second : goal.overflow_step-i-then-second
overflow_step-i-then-second c = omega arith

pub loop-i-smaller-then-second : goal.loop-i-smaller-then-second
loop-i-smaller-then-second c = omega arith

pub loop-i-preserved-then-second : goal.loop-i-preserved-then-second
loop-i-preserved-then-second c =
    let free : skips c.args.rules c.args.second (segment_at c.args.segments c.loop-i.i) ≡ false =
    sym c.skips.ensures ∙ c.if-skips.false in
    let found : place c.args.segments c.args.rules c.args.second c.loop-i.i ≡ c.loop-k.best =
    elim c.loop-k-test.branch [
      | else-loop-k-test w ↦ search-end c.args.segments c.args.rules c.args.second c.loop-i.i c.loop-i.axis c.loop-i.next
          c.requires.joinable.0.few c.requires.joinable.2
          c.loop-i.invariant.1 c.loop-i-test.true _ _ _ _ c.loop-k.invariant.3 w.loop-k-test.false
      | then-loop-k-test+then-limit-eq0 w ↦ search-stop c.args.segments c.args.rules c.args.second c.loop-i.i c.loop-i.axis c.loop-i.next
          c.requires.joinable.0.few c.requires.joinable.2
          c.loop-i.invariant.1 c.loop-i-test.true _ _ _ _ c.loop-k.invariant.3 w.if-limit-eq0.true
    ] in (
      omega arith,
      turn-none c.args.segments c.args.rules c.args.second c.loop-i.i c.loop-i.axis c.loop-i.next c.requires.joinable.0.few
          c.requires.joinable.2 c.loop-i.invariant.1 c.loop-i-test.true free _ found c.if-best-edges.false c.if-second.true,
    )

pub returns-then-edges-eq-MOST_EDGES : goal.returns-then-edges-eq-MOST_EDGES
returns-then-edges-eq-MOST_EDGES c =
    let free : skips c.args.rules c.args.second (segment_at c.args.segments c.loop-i.i) ≡ false =
    sym c.skips.ensures ∙ c.if-skips.false in
    let found : place c.args.segments c.args.rules c.args.second c.loop-i.i ≡ c.loop-k.best =
    elim c.loop-k-test.branch [
      | else-loop-k-test w ↦ search-end c.args.segments c.args.rules c.args.second c.loop-i.i c.loop-i.axis c.loop-i.next
          c.requires.joinable.0.few c.requires.joinable.2
          c.loop-i.invariant.1 c.loop-i-test.true _ _ _ _ c.loop-k.invariant.3 w.loop-k-test.false
      | then-loop-k-test+then-limit-eq0 w ↦ search-stop c.args.segments c.args.rules c.args.second c.loop-i.i c.loop-i.axis c.loop-i.next
          c.requires.joinable.0.few c.requires.joinable.2
          c.loop-i.invariant.1 c.loop-i-test.true _ _ _ _ c.loop-k.invariant.3 w.if-limit-eq0.true
    ] in
    turn-full c.args.segments c.args.rules c.args.second c.loop-i.i c.loop-i.axis c.loop-i.next c.requires.joinable.0.few
    c.requires.joinable.2
    c.loop-i.invariant.1 c.loop-i-test.true free _ found c.if-best-edges.false c.if-second.false c.if-edges-eq-MOST_EDGES.true

pub overflow_cast-i-in-loop-i : goal.overflow_cast-i-in-loop-i
overflow_cast-i-in-loop-i c = omega arith

pub new_edge-edge-requires : goal.new_edge-edge-requires
new_edge-edge-requires c =
    rw (back w32 c.args.rules.scale c.struct_told-1.given.1.1.1.0.1) (fits-in w32 (c.requires.joinable.0.opos _ c.loop-i-test.true) tt tt)

pub loop-ix-init : goal.loop-ix-init
loop-ix-init c =
    (omega arith, omega (arith, c.if-edges-eq-MOST_EDGES.false, c.loop-k.invariant.1), refl, refl, refl, refl)

pub overflow_sub-at : goal.overflow_sub-at
overflow_sub-at c = omega arith

pub offset_bounds-axis-at : goal.offset_bounds-axis-at
offset_bounds-axis-at c = omega arith

pub bounds-axis-at : goal.bounds-axis-at
bounds-axis-at c = omega arith

pub offset_bounds-axis-ix : goal.offset_bounds-axis-ix
offset_bounds-axis-ix c = omega arith

pub bounds-axis-ix : goal.bounds-axis-ix
bounds-axis-ix c = omega arith

pub loop-ix-smaller : goal.loop-ix-smaller
loop-ix-smaller c = omega arith

pub loop-ix-preserved : goal.loop-ix-preserved
loop-ix-preserved c = (
  omega arith,
  c.loop-ix.invariant.1,
  c.loop-ix.invariant.2,
  c.loop-ix.invariant.3,
  c.loop-ix.invariant.4,
  settle-on _ _ _ _ _ c.loop-ix-test.true
      (sym c.stops_behind.ensures ∙ c.if-stops_behind.false) ∙ c.loop-ix.invariant.5,
)

pub offset_bounds-axis-ix-in-loop-i : goal.offset_bounds-axis-ix-in-loop-i
offset_bounds-axis-ix-in-loop-i c = omega arith

pub bounds-axis-ix-in-loop-i : goal.bounds-axis-ix-in-loop-i
bounds-axis-ix-in-loop-i c = omega arith

pub overflow_add-axis : goal.overflow_add-axis
overflow_add-axis c = omega arith

pub overflow_cast-next : goal.overflow_cast-next
overflow_cast-next c =
    let below : c.loop-i.i < most_segments =
    lt_of_lt_of_le c.loop-i-test.true c.requires.joinable.0.few in
    omega (arith, below)

pub offset_bounds-next-i : goal.offset_bounds-next-i
offset_bounds-next-i c =
    let below : c.loop-i.i < most_segments =
    lt_of_lt_of_le c.loop-i-test.true c.requires.joinable.0.few in
    omega (arith, below)

pub bounds-next-i : goal.bounds-next-i
bounds-next-i c =
    let below : c.loop-i.i < most_segments =
    lt_of_lt_of_le c.loop-i-test.true c.requires.joinable.0.few in
    omega (arith, below)

pub overflow_step-i-in-loop-i : goal.overflow_step-i-in-loop-i
overflow_step-i-in-loop-i c =
    let below : c.loop-i.i < most_segments =
    lt_of_lt_of_le c.loop-i-test.true c.requires.joinable.0.few in
    omega (arith, below)

pub loop-i-smaller : goal.loop-i-smaller
loop-i-smaller c = omega arith

pub loop-i-preserved : goal.loop-i-preserved
loop-i-preserved c =
    let free : skips c.args.rules c.args.second (segment_at c.args.segments c.loop-i.i) ≡ false =
    sym c.skips.ensures ∙ c.if-skips.false in
    let found : place c.args.segments c.args.rules c.args.second c.loop-i.i ≡ c.loop-k.best =
    elim c.loop-k-test.branch [
      | else-loop-k-test w ↦ search-end c.args.segments c.args.rules c.args.second c.loop-i.i c.loop-i.axis c.loop-i.next
          c.requires.joinable.0.few c.requires.joinable.2
          c.loop-i.invariant.1 c.loop-i-test.true _ _ _ _ c.loop-k.invariant.3 w.loop-k-test.false
      | then-loop-k-test+then-limit-eq0 w ↦ search-stop c.args.segments c.args.rules c.args.second c.loop-i.i c.loop-i.axis c.loop-i.next
          c.requires.joinable.0.few c.requires.joinable.2
          c.loop-i.invariant.1 c.loop-i-test.true _ _ _ _ c.loop-k.invariant.3 w.if-limit-eq0.true
    ] in
    let settled : (let made = c.new_edge-edge.result in set c.loop-ix.axis.edges c.loop-ix.ix made ≡ settle (stops_behind c.args.rules made) empty_edge made c.loop-i.axis.edges c.loop-i.axis.len) =
    elim c.loop-ix-test.branch [
      | else-loop-ix-test w ↦ sym (settle-end _ _ _ _ _ (omega (arith, w.loop-ix-test.false))) ∙ c.loop-ix.invariant.5
      | then-loop-ix-test+then-stops_behind w ↦ sym (settle-stop _ _ _ _ _ w.loop-ix-test.true (sym w.stops_behind.ensures ∙ w.if-stops_behind.true)) ∙ c.loop-ix.invariant.5
    ] in (
      omega arith,
      rw (c.loop-ix.invariant.3, c.loop-ix.invariant.4) (turn-made c.args.segments c.args.rules c.args.second c.loop-i.i c.loop-i.axis
          c.loop-i.next c.requires.joinable.0.few c.requires.joinable.2 c.loop-i.invariant.1 c.loop-i-test.true free _ found
          c.if-best-edges.false
          c.if-second.false c.loop-ix.invariant.1 _ _ _
          (rw (back w32 c.args.rules.scale c.struct_told-1.given.1.1.1.0.1) at c.new_edge-edge.ensures) settled refl),
    )

pub returns : goal.returns
returns c = let e : c.loop-i.i ≡ c.args.segments.len = omega arith in rw e at c.loop-i.invariant.1
