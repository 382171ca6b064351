-- `pack_words::ring::none_broken` meets its contract: ring by ring.
use native.Mathlib.Omega.{arith}
use mathlib.Core.Path.{◌≡◌}
use mathlib.Core.Bool.{true}
use Prim.Native.Nat.{◌-◌, ◌≤◌}
use Rattle.pack_words.specs.Pack.{none_broken}
use Rattle.pack_words.proofs.Sounding.{none_yet, none_more, one-broken, none_at_all}
use Rattle.pack_words.proofs.ring.none_broken.Goals as goal

pub loop-k-init : goal.loop-k-init
loop-k-init c = (omega arith, none_yet _)

pub bounds-broken-k : goal.bounds-broken-k
bounds-broken-k c = omega (arith, c.requires)

pub returns-then-broken-k : goal.returns-then-broken-k
returns-then-broken-k c = let n = c in one-broken _ n.loop-k.k _ n.loop-k-test.true c.if-broken-k.true

pub overflow_step-k : goal.overflow_step-k
overflow_step-k c = omega arith

pub loop-k-smaller : goal.loop-k-smaller
loop-k-smaller c = omega arith

pub loop-k-preserved : goal.loop-k-preserved
loop-k-preserved c = let l = c in (omega arith, none_more _ l.loop-k.k l.loop-k.invariant.1 c.if-broken-k.false)

pub returns : goal.returns
returns c = let l = c in none_at_all _ l.loop-k.k _ l.loop-k.invariant.0 (omega arith) l.loop-k.invariant.1
