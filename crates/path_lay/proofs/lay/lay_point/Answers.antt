-- `path_lay::lay::lay_point` meets its contract.
use mathlib.Core.Path.{◌≡◌, sym, ap, subst, ◌∙◌}
use mathlib.Core.Bool.{true}
use mathlib.Core.List.{List, ◌∷◌}
use Prim.Native.Nat.{ℕ, ◌+◌, ◌-◌, ◌<◌}
use native.Mathlib.Omega.{arith}
use lib.ListN.{drop}
use Rattle.path_places.specs.declared.PixelPoint.{PixelPoint}
use Rattle.path_trip.specs.declared.step.PathStep.TheVariants.{Line, Curve}
use Rattle.path_trip.specs.Path.{points, Points, place, round_of, walked}
use Rattle.path_walk.specs.declared.walk.End.{End}
use Rattle.path_walk.specs.Steps.{EndInside, end_place}
use Rattle.path_lay.specs.Laying.{lent, laid, Room}
use Rattle.path_lay.proofs.Turns.{passed, line-left, curve-left, one_further}
use Rattle.path_lay.proofs.lay.lay_point.Goals as goal

pub returns-then-is_on : goal.returns-then-is_on
returns-then-is_on c =
    let outline : Points = points c.args.xs.now c.args.ys.now c.args.marks.now in
    record {
      step = Line (place outline c.around_at-i.result);
      wrote = c.lay_line.ensures ∙ ap (λ (p : PixelPoint). laid (lent c.args.kinds.now c.args.places.now c.args.count) (Line p)) c.place_of-p.ensures;
      left =
          line-left outline c.args.trip.start ((round_of outline c.args.a (c.args.e - 1)).walk) c.args.a c.args.e c.args.trip.from c.args.trip.count c.requires.walk
          c.args.j c.around_at-i.result c.requires.j_lt_count.0
          c.around_at-i.ensures.0 (sym c.is_on.ensures ∙ c.if-is_on.true);
      further = omega arith;
    }

pub lay_curve-requires : goal.lay_curve-requires
lay_curve-requires c =
    let room : Room (lent c.args.kinds.now c.args.places.now c.args.count) 1 = c.requires.j_lt_count.1 in
    room

pub overflow_add-result-in-Start : goal.overflow_add-result-in-Start
overflow_add-result-in-Start c =
    let small : c.args.j < 8192 = omega (arith, c.requires.admitted.few, c.requires.within.inside, c.requires.walk.inside, c.requires.j_lt_count.0) in
    omega (arith, small)

pub place_of-requires : goal.place_of-requires
place_of-requires c = record {
  admitted = c.requires.admitted;
  i_in_bounds = omega (arith, c.requires.within.inside, subst (EndInside c.args.e) c.in-Point.is c.end_of-end.ensures.1);
}

pub lay_curve-requires-in-Point : goal.lay_curve-requires-in-Point
lay_curve-requires-in-Point c =
    let room : Room (lent c.args.kinds.now c.args.places.now c.args.count) 1 = c.requires.j_lt_count.1 in
    room

pub overflow_add-result-in-Point : goal.overflow_add-result-in-Point
overflow_add-result-in-Point c =
    let small : c.args.j < 8192 = omega (arith, c.requires.admitted.few, c.requires.within.inside, c.requires.walk.inside, c.requires.j_lt_count.0) in
    omega (arith, small)

pub middle_of-requires : goal.middle_of-requires
middle_of-requires c = let p = subst (EndInside c.args.e) c.in-Between.is c.end_of-end.ensures.1 in
    record {
      admitted = c.requires.admitted;
      i_in_bounds = (omega (arith, c.requires.within.inside, p.0), omega (arith, c.requires.within.inside, p.1));
    }

pub lay_curve-requires-in-Between : goal.lay_curve-requires-in-Between
lay_curve-requires-in-Between c =
    let room : Room (lent c.args.kinds.now c.args.places.now c.args.count) 1 = c.requires.j_lt_count.1 in
    room

pub overflow_add-result-in-Between : goal.overflow_add-result-in-Between
overflow_add-result-in-Between c =
    let small : c.args.j < 8192 = omega (arith, c.requires.admitted.few, c.requires.within.inside, c.requires.walk.inside, c.requires.j_lt_count.0) in
    omega (arith, small)

pub returns-in-Start : goal.returns-in-Start
returns-in-Start c =
    let outline : Points = points c.args.xs.now c.args.ys.now c.args.marks.now in
    let walk : List ℕ = (round_of outline c.args.a (c.args.e - 1)).walk in
    let left_by : (x : End) → c.end_of-end.result ≡ x → walked outline c.args.trip.start true (drop c.args.j walk)
    ≡ Curve (place outline c.around_at-i.result) (end_place outline c.args.trip.start x)
    ∷ walked outline c.args.trip.start true (drop (passed x) (drop (c.args.j + 1) walk)) = λ x q. curve-left outline c.args.trip.start walk c.args.a c.args.e c.args.trip.from c.args.trip.count c.requires.walk
    c.args.j c.around_at-i.result c.requires.j_lt_count.0
    c.around_at-i.ensures.0 x (sym c.is_on.ensures ∙ c.if-is_on.false) (sym q ∙ c.end_of-end.ensures.0) in
    record {
      step = Curve (place outline c.around_at-i.result) c.args.trip.start;
      wrote = c.lay_curve.ensures ∙ ap (λ (p : PixelPoint). laid (lent c.args.kinds.now c.args.places.now c.args.count) (Curve p c.args.trip.start)) c.place_of-p.ensures;
      left = left_by _ c.in-Start.is;
      further = omega arith;
    }

pub returns-in-Point : goal.returns-in-Point
returns-in-Point c =
    let outline : Points = points c.args.xs.now c.args.ys.now c.args.marks.now in
    let walk : List ℕ = (round_of outline c.args.a (c.args.e - 1)).walk in
    let left_by : (x : End) → c.end_of-end.result ≡ x → walked outline c.args.trip.start true (drop c.args.j walk)
    ≡ Curve (place outline c.around_at-i.result) (end_place outline c.args.trip.start x)
    ∷ walked outline c.args.trip.start true (drop (passed x) (drop (c.args.j + 1) walk)) = λ x q. curve-left outline c.args.trip.start walk c.args.a c.args.e c.args.trip.from c.args.trip.count c.requires.walk
    c.args.j c.around_at-i.result c.requires.j_lt_count.0
    c.around_at-i.ensures.0 x (sym c.is_on.ensures ∙ c.if-is_on.false) (sym q ∙ c.end_of-end.ensures.0) in
    let q = c.place_of in
    record {
      step = Curve (place outline c.around_at-i.result) q.result;
      wrote = c.lay_curve-in-Point.ensures ∙ ap (λ (p : PixelPoint). laid (lent c.args.kinds.now c.args.places.now c.args.count) (Curve p q.result)) c.place_of-p.ensures;
      left = left_by _ c.in-Point.is
          ∙ λ i. Curve (place outline c.around_at-i.result) (sym q.ensures i)
          ∷ walked outline c.args.trip.start true (one_further c.args.j walk i);
      further = omega arith;
    }

pub returns-in-Between : goal.returns-in-Between
returns-in-Between c =
    let outline : Points = points c.args.xs.now c.args.ys.now c.args.marks.now in
    let walk : List ℕ = (round_of outline c.args.a (c.args.e - 1)).walk in
    let left_by : (x : End) → c.end_of-end.result ≡ x → walked outline c.args.trip.start true (drop c.args.j walk)
    ≡ Curve (place outline c.around_at-i.result) (end_place outline c.args.trip.start x)
    ∷ walked outline c.args.trip.start true (drop (passed x) (drop (c.args.j + 1) walk)) = λ x q. curve-left outline c.args.trip.start walk c.args.a c.args.e c.args.trip.from c.args.trip.count c.requires.walk
    c.args.j c.around_at-i.result c.requires.j_lt_count.0
    c.around_at-i.ensures.0 x (sym c.is_on.ensures ∙ c.if-is_on.false) (sym q ∙ c.end_of-end.ensures.0) in
    let q = c.middle_of in
    record {
      step = Curve (place outline c.around_at-i.result) q.result;
      wrote = c.lay_curve-in-Between.ensures ∙ ap (λ (p : PixelPoint). laid (lent c.args.kinds.now c.args.places.now c.args.count) (Curve p q.result)) c.place_of-p.ensures;
      left = left_by _ c.in-Between.is
          ∙ λ i. Curve (place outline c.around_at-i.result) (sym q.ensures i) ∷ walked outline c.args.trip.start true (drop (c.args.j + 1) walk);
      further = omega arith;
    }
