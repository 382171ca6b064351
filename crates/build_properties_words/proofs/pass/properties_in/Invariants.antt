-- `build_properties_words::pass::properties_in` meets its contract.
use Prim.Native.Nat.{◌-◌, ◌≤◌}
use native.Mathlib.Omega.{arith}
use Rattle.build_properties.specs.Properties.{edges}
use Rattle.words.specs.Segment.{flat_segments}
use Rattle.words_edge.specs.Whole.{Became}
use Rattle.build_properties_words.proofs.Passes.{pass-starts, pass-ready, pass-next, pass-ends}
use Rattle.build_properties_words.proofs.pass.properties_in.Given as goal

abbrev pub invariant-loop-k : goal.invariant-loop-k
invariant-loop-k l = (l.k ≤ l.n) × Became (edges (flat_segments l.segments) l.k) l.initial.edges l.edges

abbrev pub decreases-loop-k : goal.decreases-loop-k
decreases-loop-k l = l.n - l.k
