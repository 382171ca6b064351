-- `build_join_words::settle::stop_at` meets its contract: what is left of the walk back gives the whole.
use mathlib.Core.Path.{◌≡◌}
use lib.IntN.{pos}
use Rattle.build_join_words.specs.Lists.{stops_at, stop_at}
use Rattle.build_join_words.proofs.settle.stop_at.Given as goal

abbrev pub invariant-loop-at : goal.invariant-loop-at
invariant-loop-at l = stop_at (stops_at l.rules l.edge) (pos 0) l.places l.at ≡ stop_at (stops_at l.rules l.edge) (pos 0) l.places l.count
