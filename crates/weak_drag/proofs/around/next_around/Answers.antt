-- `weak_drag::around::next_around` meets its contract.
use native.Mathlib.Omega.{arith}
use Rattle.weak_drag.proofs.Arcs as Arcs
use Rattle.weak_drag.proofs.around.next_around.Goals as goal

pub overflow_add-p : goal.overflow_add-p
overflow_add-p c = omega (arith, c.well_formed)

pub first_touched-next-requires : goal.first_touched-next-requires
first_touched-next-requires c = (omega (arith, c.requires), c.requires.2)

pub returns-then-next-e : goal.returns-then-next-e
returns-then-next-e c = Arcs.next-found c.args.touched.now c.args.s c.args.e c.args.p c.requires.0 c.requires.1 c.requires.3 _ c.first_touched-next.ensures
    c.if-next-e.true

pub first_touched-requires : goal.first_touched-requires
first_touched-requires c = (omega (arith, c.requires), c.requires.2)

pub returns : goal.returns
returns c = Arcs.next-around c.args.touched.now c.args.s c.args.e c.args.p c.requires.0 c.requires.1 c.requires.3 _ _ c.first_touched-next.ensures
    (omega (arith, c.if-next-e.false)) c.first_touched.ensures
