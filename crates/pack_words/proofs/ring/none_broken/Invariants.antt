-- `pack_words::ring::none_broken` meets its contract: ring by ring.
use native.Mathlib.Omega.{arith}
use mathlib.Core.Path.{◌≡◌}
use mathlib.Core.Bool.{true}
use Prim.Native.Nat.{◌-◌, ◌≤◌}
use Rattle.pack_words.specs.Pack.{none_broken}
use Rattle.pack_words.proofs.Sounding.{none_yet, none_more, one-broken, none_at_all}
use Rattle.pack_words.proofs.ring.none_broken.Given as goal

abbrev pub invariant-loop-k : goal.invariant-loop-k
invariant-loop-k l = (l.k ≤ l.m) × (none_broken l.broken l.k ≡ true)

abbrev pub decreases-loop-k : goal.decreases-loop-k
decreases-loop-k l = l.m - l.k
