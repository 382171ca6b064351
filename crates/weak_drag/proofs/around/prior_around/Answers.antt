-- `weak_drag::around::prior_around` meets its contract.
use native.Mathlib.Omega.{arith}
use Rattle.weak_drag.proofs.Arcs as Arcs
use Rattle.weak_drag.proofs.around.prior_around.Goals as goal

pub last_touched-prior-requires : goal.last_touched-prior-requires
last_touched-prior-requires c = (c.requires.0, omega (arith, c.requires.1, c.requires.2))

pub returns-then-prior-p : goal.returns-then-prior-p
returns-then-prior-p c = Arcs.prior-found c.args.touched.now c.args.s c.args.e c.args.p c.requires.0 c.requires.1 c.requires.3 _ c.last_touched-prior.ensures
    c.if-prior-p.true

pub last_touched-requires : goal.last_touched-requires
last_touched-requires c = (omega (arith, c.requires.0, c.requires.1), c.requires.2)

pub returns : goal.returns
returns c = Arcs.prior-around c.args.touched.now c.args.s c.args.e c.args.p c.requires.0 c.requires.1 c.requires.3 _ _ c.last_touched-prior.ensures
    (omega (arith, c.if-prior-p.false)) c.last_touched.ensures
