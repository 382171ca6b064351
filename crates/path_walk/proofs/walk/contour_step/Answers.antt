-- `path_walk::walk::contour_step` meets its contract. The invariant: step `left` of what is left of the walk is step k of the contour.
use Rattle.std.specs.Prelude.{Ok}
use mathlib.Core.Path.{◌≡◌, sym, ap, ◌∙◌, subst}
use Prim.Native.Nat.{ℕ, ◌+◌, ◌-◌, ◌≤◌, ◌<◌}
use lib.Dec.{ltb}
use lib.ListN.{get_or, drop}
use Rattle.path_trip.specs.Path.{points, Points, on_curve, Round, round_of, walked}
use Rattle.path_trip.specs.Trips.{around}
use Rattle.path_walk.specs.Steps.{seek}
use Rattle.path_walk.proofs.Seeks.{seek-move, seek-walk, walk_first, walk-next, walk-close, walk-past}
use Rattle.path_walk.proofs.walk.contour_step.Goals as goal

pub returns-then-k-eq0 : goal.returns-then-k-eq0
returns-then-k-eq0 c =
    let outline : Points = points c.args.xs.now c.args.ys.now c.args.marks.now in
    seek-move outline (round_of outline c.args.a (c.args.e - 1)) _ c.args.k c.trip_of-trip.ensures.0 c.if-k-eq0.true

pub loop-j-init : goal.loop-j-init
loop-j-init c =
    let outline : Points = points c.args.xs.now c.args.ys.now c.args.marks.now in
    seek-walk outline (round_of outline c.args.a (c.args.e - 1)) _ c.args.k c.trip_of-trip.ensures.0 c.if-k-eq0.false

pub returns-then-left-count : goal.returns-then-left-count
returns-then-left-count c =
    let outline : Points = points c.args.xs.now c.args.ys.now c.args.marks.now in
    let on-curve : on_curve outline (around c.args.a c.args.e (c.trip_of-trip.result.from + c.loop-j.j)) ≡ c.is_on-on.result = ap (λ (k : ℕ). ltb 0 (get_or c.args.marks.now k 0)) (sym c.around_at-i.ensures.0) ∙ sym c.is_on-on.ensures in
    ap Ok c.step_here.ensures
    ∙ sym (walk_first outline c.trip_of-trip.result.start (round_of outline c.args.a (c.args.e - 1)).walk c.args.a c.args.e c.trip_of-trip.result.from c.trip_of-trip.result.count
    c.trip_of-trip.ensures.1
    c.loop-j.j c.loop-j-test.true c.is_on-on.result c.loop-j.joined c.loop-j.left on-curve
    (subst (λ (m : ℕ). c.loop-j.left < m) c.count_of-count.ensures c.if-left-count.true))
    ∙ sym c.loop-j.invariant

pub loop-j-preserved : goal.loop-j-preserved
loop-j-preserved c =
    let outline : Points = points c.args.xs.now c.args.ys.now c.args.marks.now in
    let round : Round = round_of outline c.args.a (c.args.e - 1) in
    let on-curve : on_curve outline (around c.args.a c.args.e (c.trip_of-trip.result.from + c.loop-j.j)) ≡ c.is_on-on.result = ap (λ (k : ℕ). ltb 0 (get_or c.args.marks.now k 0)) (sym c.around_at-i.ensures.0) ∙ sym c.is_on-on.ensures in
    let h = c.loop-j-test.true in
    let e = c.count_of-count.ensures in
    c.loop-j.invariant
    ∙ walk-next outline c.trip_of-trip.result.start round.walk c.args.a c.args.e c.trip_of-trip.result.from c.trip_of-trip.result.count
    c.trip_of-trip.ensures.1
    c.loop-j.j h c.is_on-on.result c.loop-j.joined c.loop-j.left on-curve (subst (λ (m : ℕ). m ≤ c.loop-j.left) e c.if-left-count.false)
    ∙ ap (λ (m : ℕ). seek (walked outline c.trip_of-trip.result.start c.is_on-on.result (drop (c.loop-j.j + 1) round.walk)) (c.loop-j.left - m))
    (sym e)

pub returns-then-left-eq0 : goal.returns-then-left-eq0
returns-then-left-eq0 c =
    let outline : Points = points c.args.xs.now c.args.ys.now c.args.marks.now in
    sym (c.loop-j.invariant ∙ walk-close outline c.trip_of-trip.result.start (round_of outline c.args.a (c.args.e - 1)).walk c.args.a c.args.e c.trip_of-trip.result.from c.trip_of-trip.result.count
    c.trip_of-trip.ensures.1 c.loop-j.j c.loop-j-test.false c.loop-j.joined c.loop-j.left c.if-left-eq0.true)

pub returns : goal.returns
returns c =
    let outline : Points = points c.args.xs.now c.args.ys.now c.args.marks.now in
    sym (c.loop-j.invariant ∙ walk-past outline c.trip_of-trip.result.start (round_of outline c.args.a (c.args.e - 1)).walk c.args.a c.args.e c.trip_of-trip.result.from c.trip_of-trip.result.count
    c.trip_of-trip.ensures.1 c.loop-j.j c.loop-j-test.false c.loop-j.joined c.loop-j.left c.if-left-eq0.false)
