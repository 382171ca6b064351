-- `mend_words::named::all_named` meets its contract: each turn tests one count.
use mathlib.Core.Path.{◌≡◌, refl, sym}
use mathlib.Core.Bool.{true}
use Prim.Native.Nat.{◌≤◌, ◌-◌}
use native.Mathlib.Omega.{arith}
use borrow.Author.Tests.{lt-ltb, le-ltb}
use lib.ListN.{get_or}
use Rattle.axis.specs.Limits.{most_edges}
use Rattle.axis.specs.Refusals.{every}
use Rattle.axis.proofs.Tests.{every-none, every_more, every-fails, every-done}
use Rattle.mend_words.specs.Named.{is_named}
use Rattle.mend_words.proofs.named.all_named.Given as goal

abbrev pub invariant-loop-k : goal.invariant-loop-k
invariant-loop-k l = (l.k ≤ l.m) × (l.m ≤ most_edges) × (every (is_named l.counts) l.k ≡ true)

abbrev pub decreases-loop-k : goal.decreases-loop-k
decreases-loop-k l = l.m - l.k
