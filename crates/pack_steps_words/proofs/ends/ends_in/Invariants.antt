-- `pack_steps_words::ends::ends_in` meets its contract: edge by edge.
use native.Mathlib.Omega.{arith}
use mathlib.Core.Path.{refl}
use Prim.Native.Nat.{◌-◌, ◌≤◌, ◌<◌}
use Rattle.axis.specs.declared.edge.Axis.{Axis}
use Rattle.pack.specs.Sets.{number_at}
use Rattle.pack.proofs.Edges.{edges_to}
use Rattle.words.specs.Edge.{edges_in}
use Rattle.words_edge.specs.Whole.{Became}
use Rattle.words_edge.proofs.Became.{stays}
use Rattle.pack_steps_words.proofs.Edges.{next-ready, one_more, all-ended}
use Rattle.pack_steps_words.proofs.ends.ends_in.Given as goal

abbrev pub invariant-loop-i : goal.invariant-loop-i
invariant-loop-i l = (l.i ≤ edges_in l.initial.words) × Became (λ (x : Axis). edges_to (number_at l.new) x l.i) l.initial.words l.words

abbrev pub decreases-loop-i : goal.decreases-loop-i
decreases-loop-i l = l.n - l.i
