-- `words_edge_test::hold::edges_hold` meets its contract.
use borrow.Author.Tests.{not-false}
use mathlib.Core.Path.{◌≡◌, refl, subst}
use Prim.Native.Nat.{◌-◌}
use native.Mathlib.Omega.{arith}
use Rattle.words.specs.Record.{edge_layout}
use Rattle.words_edge_test.specs.Held.{links_to, BackHeld}
use Rattle.words_call.proofs.Tested.{Passed, passed_none, passed-more}
use Rattle.words_call.proofs.Holding.{clash}
use Rattle.words_edge_test.proofs.Holding.{EdgeHeld, passed-all}
use Rattle.words_edge_test.proofs.hold.edges_hold.Goals as goal

pub returns-then-n-gt-MOST_EDGES : goal.returns-then-n-gt-MOST_EDGES
returns-then-n-gt-MOST_EDGES c = λ h. absurd (clash h)

pub overflow_mul-n : goal.overflow_mul-n
overflow_mul-n c = omega arith

pub returns-then-n-words : goal.returns-then-n-words
returns-then-n-words c = λ h. absurd (clash h)

pub links_to-links-requires : goal.links_to-links-requires
links_to-links-requires c = let h = c.if-n-gt-MOST_EDGES.false in omega (arith, h)

pub loop-i-init : goal.loop-i-init
loop-i-init c = let e = c in (c.links_to-links.ensures, passed_none _ _ _ _ e.if-n-gt-MOST_EDGES.false refl e.if-n-words.false)

pub overflow_mul-i : goal.overflow_mul-i
overflow_mul-i c = let p = c.loop-i.invariant.1 in let h = c.loop-i-test.true in omega (arith, p.few, h)

pub front_holds-requires : goal.front_holds-requires
front_holds-requires c = let p = c.loop-i.invariant.1 in let h = c.loop-i-test.true in omega (arith, p.count, h)

pub returns-then-not-front_holds : goal.returns-then-not-front_holds
returns-then-not-front_holds c = λ h. absurd (clash h)

pub overflow_mul-i-in-loop-i : goal.overflow_mul-i-in-loop-i
overflow_mul-i-in-loop-i c = let l = c in let p = l.loop-i.invariant.1 in let h = l.loop-i-test.true in omega (arith, p.few, h)

pub back_holds-requires : goal.back_holds-requires
back_holds-requires c = let l = c in let p = l.loop-i.invariant.1 in let h = l.loop-i-test.true in omega (arith, p.count, h)

pub returns-then-not-back_holds : goal.returns-then-not-back_holds
returns-then-not-back_holds c = λ h. absurd (clash h)

pub overflow_step-i : goal.overflow_step-i
overflow_step-i c = let l = c in let p = l.loop-i.invariant.1 in let h = l.loop-i-test.true in omega (arith, p.few, h)

pub loop-i-smaller : goal.loop-i-smaller
loop-i-smaller c = let h = c.loop-i-test.true in omega (arith, h)

pub loop-i-preserved : goal.loop-i-preserved
loop-i-preserved c =
    let b = c in
    let e = b in
    let f = e in
    let l = f in
    let v = l.loop-i.invariant in (
      v.0,
      passed-more _ _ _ _ _ v.1 l.loop-i-test.true
          (f.front_holds.ensures (e.if-not-front_holds.false), subst (BackHeld _ _) v.0 (b.back_holds.ensures (c.if-not-back_holds.false))),
    )

pub returns : goal.returns
returns c = λ h. passed-all _ _ _ c.loop-i.invariant.1 c.loop-i-test.false
