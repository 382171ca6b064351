-- `build_words::pass::build_in` meets its contract.
use mathlib.Core.Path.{◌≡◌, refl}
use Prim.Native.Nat.{◌≤◌}
use native.Mathlib.Omega.{arith}
use borrow.Author.Rules.{rules}
use Rattle.axis.specs.Limits.{most_edges}
use Rattle.build_words.proofs.Built.{few-built, builds-full, front-ready, room-long, builds-done}
use Rattle.build_words.proofs.pass.build_in.Goals as goal

pub join_in-joined-requires : goal.join_in-joined-requires
join_in-joined-requires c = record {
  segments_within = (c.requires.1, c.requires.2);
  first_value = (refl, refl, refl);
}

pub returns-then-joined : goal.returns-then-joined
returns-then-joined c = builds-full c.requires.0 c.requires.1 c.requires.2 c.join_in-joined.ensures c.args.room.now c.if-joined.true

pub overflow_mul-size : goal.overflow_mul-size
overflow_mul-size c =
    let few : c.join_in-joined.result.count ≤ most_edges = few-built c.requires.0 c.requires.1 c.requires.2 c.join_in-joined.ensures c.args.room.now in
    omega (arith, few)

pub slice_bounds-build_listed-count : goal.slice_bounds-build_listed-count
slice_bounds-build_listed-count c = omega arith

pub slice_bounds-build_listed-start : goal.slice_bounds-build_listed-start
slice_bounds-build_listed-start c = omega arith

pub slice_bounds-build_listed-end : goal.slice_bounds-build_listed-end
slice_bounds-build_listed-end c =
    let few : c.join_in-joined.result.count ≤ most_edges = few-built c.requires.0 c.requires.1 c.requires.2 c.join_in-joined.ensures c.args.room.now in
    omega (arith, few, c.requires.3)

pub build_listed-requires : goal.build_listed-requires
build_listed-requires c = front-ready c.requires.0 c.requires.1 c.requires.2 c.join_in-joined.ensures c.args.room.now c.if-joined.false c.requires.3

pub shape_of-segments : goal.shape_of-segments
shape_of-segments c = c.build_listed.ensures.long

pub shape_of-room : goal.shape_of-room
shape_of-room c = room-long c.requires.0 c.requires.1 c.requires.2 c.join_in-joined.ensures c.args.room.now c.if-joined.false c.requires.3 c.build_listed.ensures

pub returns : goal.returns
returns c = builds-done c.requires.0 c.requires.1 c.requires.2 c.join_in-joined.ensures c.args.room.now c.if-joined.false c.requires.3 c.build_listed.ensures
