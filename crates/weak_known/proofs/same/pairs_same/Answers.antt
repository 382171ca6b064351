-- `weak_known::same::pairs_same` meets its contract. The invariant: the neighbours passed are compared.
use native.Mathlib.Omega.{arith}
use mathlib.Core.Path.{◌∙◌}
use Rattle.weak_known.proofs.Fitting.{runs_none, runs-more, runs-end}
use Rattle.weak_known.proofs.same.pairs_same.Goals as goal
use Rattle.weak_known.proofs.same.pairs_same.Goals.{else-loop-i-test, then-loop-i-test+else-last-i-gt8}

pub loop-i-init : goal.loop-i-init
loop-i-init c = (omega arith, omega arith, runs_none _ _)

pub loop-i-preserved : goal.loop-i-preserved
loop-i-preserved c = (omega arith, omega arith, runs-more _ _ _ _ _ _ c.loop-i.invariant.0 c.loop-i.invariant.2 c.eight_same-here.ensures)

pub returns : goal.returns
returns c =
    let v = c.loop-i.invariant in
    elim c.loop-i-test.branch [
      | else-loop-i-test w ↦
          runs-end _ _ _ _ _ _ _ (omega arith) (omega arith) (omega arith) (omega arith) (w.ok-is ∙ v.2) c.eight_same-rest.ensures
      | then-loop-i-test+else-last-i-gt8 w ↦
          runs-end _ _ _ _ _ _ _ (omega arith) (omega arith) (omega arith) (omega arith)
          (w.ok-is ∙ runs-more _ _ _ _ _ _ v.0 v.2 w.eight_same-here.ensures) c.eight_same-rest.ensures
    ]
