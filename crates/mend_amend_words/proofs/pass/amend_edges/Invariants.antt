-- `mend_amend_words::pass::amend_edges` meets its contract: each turn alters one edge.
use Prim.Native.Nat.{◌≤◌, ◌<◌, ◌-◌}
use native.Mathlib.Omega.{arith}
use mathlib.Core.Path.{◌∙◌}
use Rattle.words.specs.Edge.{edges_in}
use Rattle.words_edge.proofs.Became.{below_in}
use Rattle.mend_amend_words.proofs.Passes.{EdgesTo, edges_none, edges_room, edges_long, edges_more, edges-all}
use Rattle.mend_amend_words.proofs.pass.amend_edges.Given as goal

abbrev pub invariant-loop-k : goal.invariant-loop-k
invariant-loop-k l = (l.k ≤ edges_in l.initial.edges) × EdgesTo l.broken l.firsts l.lasts l.before l.k l.initial.edges l.initial.room l.count l.edges l.room

abbrev pub decreases-loop-k : goal.decreases-loop-k
decreases-loop-k l = l.m - l.k
