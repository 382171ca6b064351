-- `shown_walk::cross_contour` meets its contract. The invariant: the lines of what is left of the walk are left to add.
use mathlib.Core.Path.{◌≡◌, sym, ap, subst, ◌∙◌}
use mathlib.Core.List.{List, ◌∷◌, []}
use Prim.Native.Nat.{ℕ, ◌+◌, ◌-◌}
use lib.ListN.{drop}
use Rattle.path_trip.specs.Path.{points, Points}
use Rattle.path_trip.specs.Legs.{Tour, tour_of}
use Rattle.path_trip.specs.Trips.{around, Walk}
use Rattle.path_walk.specs.Steps.{end_of}
use Rattle.shown.specs.Shown.{contour_lines}
use Rattle.shown_lines.specs.declared.place.Halves.{Halves}
use Rattle.shown_lines.specs.Lines.{field_half, halves_at, straight, curve_sides, Wound}
use Rattle.shown_lines.proofs.Winding.{owing, owing-as, owing-alike, owing-more, owing-done}
use Rattle.shown_walk.proofs.Walks.{walk_sides, contour-alike, turn-line, turn-curve, turn-back, walk_same}
use Rattle.shown_walk.proofs.cross_contour.Goals as goal

pub loop-j-init : goal.loop-j-init
loop-j-init c =
    let outline : Points = points c.args.xs.now c.args.ys.now c.args.marks.now in
    let round : Tour = tour_of outline c.args.a (c.args.e - 1) in
    let started : c.spot_halves-start.result ≡ halves_at outline c.args.magnify round.start = c.spot_halves-start.ensures.0 ∙ ap (halves_at outline c.args.magnify) c.tour_of-tour.ensures.0 in (
      c.spot_halves-start.ensures.1,
      owing-as _ _ (ap (λ (p : Halves). walk_sides outline c.args.magnify round.start p (drop 0 round.walk)) (sym started))
          (owing-alike _ _ (contour-alike outline c.args.magnify round)
          (owing c.args.left c.args.y c.args.changes.now (contour_lines field_half c.args.magnify outline round))),
    )

pub loop-j-preserved-then-is_on : goal.loop-j-preserved-then-is_on
loop-j-preserved-then-is_on c =
    let outline : Points = points c.args.xs.now c.args.ys.now c.args.marks.now in
    let round : Tour = tour_of outline c.args.a (c.args.e - 1) in
    let h = c.loop-j-test.true in (
      c.point_place-c.ensures.1,
      owing-more _ (straight c.loop-j.p c.point_place-c.result ∷ [])
          (walk_sides outline c.args.magnify round.start c.point_place-c.result (drop (c.loop-j.j + 1) round.walk))
          c.cross_straight.ensures
          (owing-as _ _
          (turn-line outline c.args.magnify round.start c.loop-j.p round.walk c.args.a c.args.e
          c.tour_of-tour.result.from c.tour_of-tour.result.count
          c.tour_of-tour.ensures.2 c.loop-j.j c.around_at-i.result c.point_place-c.result h c.around_at-i.ensures.0
          (sym c.is_on.ensures ∙ c.if-is_on.true) c.point_place-c.ensures.0)
          c.loop-j.invariant.1),
    )

pub end_of-end-requires-clause-walk : goal.end_of-end-requires-clause-walk
end_of-end-requires-clause-walk c =
    subst (λ (w : List ℕ). Walk w c.args.a c.args.e c.tour_of-tour.result.from c.tour_of-tour.result.count)
    (sym (walk_same (points c.args.xs.now c.args.ys.now c.args.marks.now) c.args.a (c.args.e - 1))) c.tour_of-tour.ensures.2

pub loop-j-preserved : goal.loop-j-preserved
loop-j-preserved c =
    let outline : Points = points c.args.xs.now c.args.ys.now c.args.marks.now in
    let round : Tour = tour_of outline c.args.a (c.args.e - 1) in
    let started : c.spot_halves-start.result ≡ halves_at outline c.args.magnify round.start = c.spot_halves-start.ensures.0 ∙ ap (halves_at outline c.args.magnify) c.tour_of-tour.ensures.0 in
    let h = c.loop-j-test.true in
    let i = around c.args.a c.args.e (c.tour_of-tour.result.from + c.loop-j.j) in (
      c.end_halves-q.ensures.1,
      owing-more _ (curve_sides c.loop-j.p c.point_place-c.result c.end_halves-q.result 0 16)
          (walk_sides outline c.args.magnify round.start c.end_halves-q.result (drop (c.loop-j.j + 1) round.walk)) c.cross_curve.ensures
          (owing-as _ _
          (turn-curve outline c.args.magnify round.start c.loop-j.p round.walk c.args.a c.args.e
          c.tour_of-tour.result.from c.tour_of-tour.result.count
          c.tour_of-tour.ensures.2 c.loop-j.j c.around_at-i.result c.point_place-c.result c.end_halves-q.result c.spot_halves-start.result
          c.end_of-end.result h
          c.around_at-i.ensures.0 (sym c.is_on.ensures ∙ c.if-is_on.false) c.point_place-c.ensures.0 started
          (c.end_of-end.ensures.0 ∙ ap (λ (v : List ℕ). end_of outline i (drop (c.loop-j.j + 1) v)) (walk_same outline c.args.a (c.args.e - 1)))
          c.end_halves-q.ensures.0)
          c.loop-j.invariant.1),
    )

pub returns : goal.returns
returns c =
    let outline : Points = points c.args.xs.now c.args.ys.now c.args.marks.now in
    let round : Tour = tour_of outline c.args.a (c.args.e - 1) in
    let started : c.spot_halves-start.result ≡ halves_at outline c.args.magnify round.start = c.spot_halves-start.ensures.0 ∙ ap (halves_at outline c.args.magnify) c.tour_of-tour.ensures.0 in
    let closed : Wound (contour_lines field_half c.args.magnify outline round) c.args.left c.args.y c.args.changes.now c.cross_straight-2.new.changes = owing-done
    (owing-more _ (straight c.loop-j.p c.spot_halves-start.result ∷ []) [] c.cross_straight-2.ensures
    (owing-as _ _
    (turn-back outline c.args.magnify round.start c.loop-j.p round.walk c.args.a c.args.e
    c.tour_of-tour.result.from c.tour_of-tour.result.count
    c.tour_of-tour.ensures.2 c.loop-j.j c.spot_halves-start.result c.loop-j-test.false started)
    c.loop-j.invariant.1)) in
    closed
