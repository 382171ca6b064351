-- `weak_known::same::lone_same` meets its contract. The invariant: the weights passed are summed up.
use native.Mathlib.Omega.{arith}
use mathlib.Core.Path.{sym, ◌∙◌, ap}
use Prim.Native.Nat.{ℕ}
use lib.Dec.{ltb}
use Rattle.weak_known.proofs.Fitting.{weights-next, weights-end, weights-most}
use Rattle.weak_known.proofs.same.lone_same.Goals as goal

pub overflow_add-sum : goal.overflow_add-sum
overflow_add-sum c = let a = c.args in
    omega (
      arith,
      weights-most a.touched.now a.before.now a.behind.now a.s a.e c.loop-i.i c.loop-i.sum _ (omega arith) (omega arith)
          c.weigh-w.ensures c.loop-i.invariant,
      c.requires,
    )

pub loop-i-preserved : goal.loop-i-preserved
loop-i-preserved c = let a = c.args in
    sym (weights-next a.touched.now a.before.now a.behind.now a.e c.loop-i.i _ _ (omega arith) c.weigh-w.ensures) ∙ c.loop-i.invariant

pub returns : goal.returns
returns c = ap (λ (x : ℕ). ltb x 2) (sym (weights-end _ _ _ _ (omega arith)) ∙ c.loop-i.invariant)
