-- `path_walk::walk::curve_end` meets its contract.
use mathlib.Core.Path.{◌≡◌, sym, ap, subst, ◌∙◌}
use Prim.Native.Nat.{◌+◌, ◌-◌}
use native.Mathlib.Omega.{arith}
use lib.ListN.{drop}
use Rattle.path_trip.specs.Path.{points, Points, round_of, curve_end}
use Rattle.path_trip.specs.Trips.{around}
use Rattle.path_walk.specs.declared.walk.End.{End}
use Rattle.path_walk.specs.Steps.{EndInside, end_place}
use Rattle.path_walk.proofs.Seeks.{end-place}
use Rattle.path_walk.proofs.walk.curve_end.Goals as goal

pub place_of-requires : goal.place_of-requires
place_of-requires c = record {
  admitted = c.requires.admitted;
  i_in_bounds = omega (arith, c.requires.within.inside, subst (EndInside c.args.e) c.in-Point.is c.end_of-end.ensures.1);
}

pub middle_of-requires : goal.middle_of-requires
middle_of-requires c = let p = subst (EndInside c.args.e) c.in-Between.is c.end_of-end.ensures.1 in
    record {
      admitted = c.requires.admitted;
      i_in_bounds = (omega (arith, c.requires.within.inside, p.0), omega (arith, c.requires.within.inside, p.1));
    }

pub returns-in-Start : goal.returns-in-Start
returns-in-Start c =
    let outline : Points = points c.args.xs.now c.args.ys.now c.args.marks.now in
    let found : (x : End) → c.end_of-end.result ≡ x
    → end_place outline c.args.trip.start x ≡ (curve_end outline c.args.trip.start (around c.args.a c.args.e (c.args.trip.from + c.args.j))
    (drop (c.args.j + 1) (round_of outline c.args.a (c.args.e - 1)).walk)) = λ x q. ap (end_place outline c.args.trip.start) (sym q ∙ c.end_of-end.ensures.0) ∙ sym (end-place outline c.args.trip.start _ _) in
    found _ c.in-Start.is

pub returns-in-Point : goal.returns-in-Point
returns-in-Point c =
    let outline : Points = points c.args.xs.now c.args.ys.now c.args.marks.now in
    let found : (x : End) → c.end_of-end.result ≡ x
    → end_place outline c.args.trip.start x ≡ (curve_end outline c.args.trip.start (around c.args.a c.args.e (c.args.trip.from + c.args.j))
    (drop (c.args.j + 1) (round_of outline c.args.a (c.args.e - 1)).walk)) = λ x q. ap (end_place outline c.args.trip.start) (sym q ∙ c.end_of-end.ensures.0) ∙ sym (end-place outline c.args.trip.start _ _) in
    c.place_of.ensures ∙ found _ c.in-Point.is

pub returns-in-Between : goal.returns-in-Between
returns-in-Between c =
    let outline : Points = points c.args.xs.now c.args.ys.now c.args.marks.now in
    let found : (x : End) → c.end_of-end.result ≡ x
    → end_place outline c.args.trip.start x ≡ (curve_end outline c.args.trip.start (around c.args.a c.args.e (c.args.trip.from + c.args.j))
    (drop (c.args.j + 1) (round_of outline c.args.a (c.args.e - 1)).walk)) = λ x q. ap (end_place outline c.args.trip.start) (sym q ∙ c.end_of-end.ensures.0) ∙ sym (end-place outline c.args.trip.start _ _) in
    c.middle_of.ensures ∙ found _ c.in-Between.is
