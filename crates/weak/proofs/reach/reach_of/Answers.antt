-- `weak::reach::reach_of` meets its contract. The invariant: the least and the largest are those of what was passed.
use native.Mathlib.Omega.{arith}
use mir.Syntax.{w32}
use Rattle.signed.proofs.Signed.{is, got}
use Rattle.weak_contour.specs.Contour.{at}
use Rattle.weak.proofs.Reaching.{reached-next, reached-all}
use Rattle.weak.proofs.reach.reach_of.Goals as goal

pub loop-x-preserved : goal.loop-x-preserved
loop-x-preserved c = let x = at c.args.list.now c.loop-x.x-index in
    let e = is (got w32 x c.min-arg-1.given) in
    let p = is (got w32 c.min-least.result c.min-least.type_inv) in
    let q = is (got w32 c.max-most.result c.max-most.type_inv) in
    reached-next _ _ _ _ _ _ c.loop-x.invariant (rw p c.min-least.ensures.self_bound) (rw (p, ← e) c.min-least.ensures.other_bound)
    (rw q c.max-most.ensures.self_bound) (rw (q, ← e) c.max-most.ensures.other_bound)

pub returns : goal.returns
returns c = reached-all _ _ _ _ (omega arith) c.loop-x.invariant
