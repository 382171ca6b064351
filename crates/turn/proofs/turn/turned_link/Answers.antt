-- `turn::turn::turned_link` meets its contract.
use native.Mathlib.Omega.{arith}
use Prim.Native.Nat.{◌<◌}
use Rattle.axis.proofs.Acceptance.{link-below}
use Rattle.turn.proofs.turn.turned_link.Goals as goal

pub overflow_sub-result : goal.overflow_sub-result
overflow_sub-result c =
    let below : c.in-Some.k < c.args.count = (link-below _ _ c.requires.1).at _ c.in-Some.is in
    omega (arith, below)

pub overflow_sub-result-in-Some : goal.overflow_sub-result-in-Some
overflow_sub-result-in-Some c =
    let below : c.in-Some.k < c.args.count = (link-below _ _ c.requires.1).at _ c.in-Some.is in
    omega (arith, below)

pub overflow_cast-result-in-Some : goal.overflow_cast-result-in-Some
overflow_cast-result-in-Some c =
    let below : c.in-Some.k < c.args.count = (link-below _ _ c.requires.1).at _ c.in-Some.is in
    omega (arith, below)

pub returns-in-None : goal.returns-in-None
returns-in-None c = rw c.in-None.is

pub returns-in-Some : goal.returns-in-Some
returns-in-Some c = rw c.in-Some.is
