-- `pack::follow::reach` meets its contract: the number is there, or there is room for it.
use borrow.Author.Rules.{rules}
use native.Mathlib.Omega.{arith}
use Prim.Native.Nat.{◌<◌}
use Rattle.axis.specs.Limits.{most_segments}
use Rattle.pack.proofs.Lists.{already, added, room}
use Rattle.pack.proofs.follow.reach.Goals as goal

pub returns-then-kept-at : goal.returns-then-kept-at
returns-then-kept-at c = already _ _ c.args.len c.args.k c.requires.0 c.if-kept-at.true

pub offset_bounds-order-len : goal.offset_bounds-order-len
offset_bounds-order-len c =
    let has_room : c.args.len < most_segments = room _ _ c.args.len c.args.k c.requires.0 c.if-kept-at.false c.requires.1 in
    omega (arith, has_room)

pub bounds-order-len : goal.bounds-order-len
bounds-order-len c =
    let has_room : c.args.len < most_segments = room _ _ c.args.len c.args.k c.requires.0 c.if-kept-at.false c.requires.1 in
    omega (arith, has_room)

pub overflow_add-result : goal.overflow_add-result
overflow_add-result c =
    let has_room : c.args.len < most_segments = room _ _ c.args.len c.args.k c.requires.0 c.if-kept-at.false c.requires.1 in
    omega (arith, has_room)

pub returns : goal.returns
returns c = added _ _ c.args.len c.args.k c.requires.0 c.if-kept-at.false c.requires.1
