-- `weak_known::same::eight_same` meets its contract. The invariant: the neighbours passed are compared.
use native.Mathlib.Omega.{arith}
use mathlib.Core.Path.{◌≡◌, refl, ◌∙◌}
use Rattle.weak_known.specs.Walks.{all_from}
use Rattle.weak_known.proofs.Fitting.{fits-here, all_more}
use Rattle.weak_known.proofs.same.eight_same.Goals as goal

pub loop-k-init : goal.loop-k-init
unfolding all_from
loop-k-init c = refl

pub loop-k-preserved : goal.loop-k-preserved
loop-k-preserved c = all_more _ _ _ _ _ c.loop-k.invariant (c.pair_same-here.ensures ∙ fits-here _ _ _ _)

pub returns : goal.returns
returns c = let e : c.loop-k.k ≡ 8 = omega arith in
    rw e at c.loop-k.invariant
