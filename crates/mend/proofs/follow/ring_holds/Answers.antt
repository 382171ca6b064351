-- `mend::follow::ring_holds` meets its contract: what is left of the ring gives the whole.
use mathlib.Core.Path.{◌≡◌, refl, sym, ap, ◌∙◌}
use mathlib.Core.Bool.{true, false}
use Prim.Native.Nat.{◌≤◌, ◌<◌}
use native.Mathlib.Omega.{arith}
use borrow.Author.Rules.{rules}
use borrow.Author.Tests.{eq-eqb, ne_eqb}
use Rattle.axis.specs.Limits.{most_segments}
use Rattle.mend.specs.Following.{closes, own_in, next_in}
use Rattle.mend.proofs.Steps.{step-out, step_other, step-early, step-last, step-on, from_place, at-end}
use Rattle.mend.proofs.follow.ring_holds.Goals as goal

pub loop-left-init : goal.loop-left-init
loop-left-init c = (c.requires, refl)

pub returns-then-n-at : goal.returns-then-n-at
returns-then-n-at c =
    let place = c in
    let test = place in
    sym (step-out _ _ _ _ _ _ _ test.loop-left-test.true c.if-n-at.true) ∙ from_place _ _ _ _ _ _ _ _ _ place.place-at.ensures test.loop-left.invariant.1

pub offset_bounds-edges-at : goal.offset_bounds-edges-at
offset_bounds-edges-at c = omega arith

pub bounds-edges-at : goal.bounds-edges-at
bounds-edges-at c = omega arith

pub returns-then-edges-at : goal.returns-then-edges-at
returns-then-edges-at c =
    let place = c in
    let test = place in
    sym (step_other _ _ _ _ _ _ _ test.loop-left-test.true (ne_eqb _ _ c.if-edges-at.true))
    ∙ from_place _ _ _ _ _ _ _ _ _ place.place-at.ensures test.loop-left.invariant.1

pub offset_bounds-next-at : goal.offset_bounds-next-at
offset_bounds-next-at c = omega arith

pub bounds-next-at : goal.bounds-next-at
bounds-next-at c = omega arith

pub returns-then-left-gt1 : goal.returns-then-left-gt1
returns-then-left-gt1 c =
    let own = c in
    let place = own in
    let e = place.place-at.ensures in
    sym (step-early _ _ _ _ _ _ _ c.if-left-gt1.true (eq-eqb _ _ own.if-edges-at.false) (e ∙ c.if-ix-last.true))
    ∙ from_place _ _ _ _ _ _ _ _ _ e place.loop-left.invariant.1

pub returns-then-ix-last : goal.returns-then-ix-last
returns-then-ix-last c =
    let own = c in
    let inside = own in
    let place = inside in
    let e = place.place-at.ensures in
    sym (step-last _ _ _ _ _ _ _ place.loop-left-test.true c.if-left-gt1.false inside.if-n-at.false (eq-eqb _ _ own.if-edges-at.false) (e ∙ c.if-ix-last.true))
    ∙ from_place _ _ _ _ _ _ _ _ _ e place.loop-left.invariant.1

pub loop-left-smaller : goal.loop-left-smaller
loop-left-smaller c = omega arith

pub loop-left-preserved : goal.loop-left-preserved
loop-left-preserved c =
    let own = c in
    let inside = own in
    let place = inside in
    let e = place.place-at.ensures in
    let l = place.loop-left in (
      l.invariant.0,
      sym (step-on _ _ _ _ _ _ _ place.loop-left-test.true inside.if-n-at.false (eq-eqb _ _ own.if-edges-at.false) (λ q. c.if-ix-last.false (sym e ∙ q)))
          ∙ from_place _ _ _ _ _ _ _ _ _ e l.invariant.1,
    )

pub returns : goal.returns
returns c = at-end _ _ _ _ _ _ _ _ c.loop-left-test.false c.loop-left.invariant.1
