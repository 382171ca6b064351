-- `weak_known::same::few_same` meets its contract. The invariant: what is left decides.
use native.Mathlib.Omega.{arith}
use mathlib.Core.Path.{◌≡◌, sym, ◌∙◌}
use Prim.Native.Nat.{◌-◌}
use Rattle.weak_known.specs.Walks.{fits_at}
use Rattle.weak_known.proofs.Fitting.{fits_next, all-next, all-fails, all_end}
use Rattle.weak_known.proofs.same.few_same.Goals as goal

pub returns-then-not-pair_same : goal.returns-then-not-pair_same
returns-then-not-pair_same c =
    let here : let a =
    c.args in c.pair_same.result ≡ fits_at a.touched.now a.before.now a.behind.now (c.loop-i.i - 1) = c.pair_same.ensures ∙ fits_next _ _ _ _ (omega arith) in
    sym (c.loop-i.invariant ∙ all-fails _ _ _ _ (omega arith) here c.if-not-pair_same.true)

pub loop-i-preserved : goal.loop-i-preserved
loop-i-preserved c =
    let here : let a =
    c.args in c.pair_same.result ≡ fits_at a.touched.now a.before.now a.behind.now (c.loop-i.i - 1) = c.pair_same.ensures ∙ fits_next _ _ _ _ (omega arith) in
    c.loop-i.invariant ∙ all-next _ _ _ _ (omega arith) (omega arith) here c.if-not-pair_same.false

pub returns : goal.returns
returns c = sym (c.loop-i.invariant ∙ all_end _ _ _ (omega arith))
