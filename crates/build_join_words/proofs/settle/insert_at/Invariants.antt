-- `build_join_words::settle::insert_at` meets its contract: what is left to move gives the whole.
use mathlib.Core.Path.{◌≡◌}
use Prim.Native.Nat.{◌≤◌}
use lib.IntN.{pos}
use Rattle.build_join_words.specs.Lists.{insert_at}
use Rattle.build_join_words.proofs.settle.insert_at.Given as goal

abbrev pub invariant-loop-below : goal.invariant-loop-below
invariant-loop-below l = (l.at ≤ l.below) × (insert_at (pos 0) l.place l.places l.at l.below ≡ insert_at (pos 0) l.place l.initial.places l.at l.count)
    × (insert_at 0 l.i l.first l.at l.below ≡ insert_at 0 l.i l.initial.first l.at l.count) × (insert_at 0 l.i l.last l.at l.below ≡ insert_at 0 l.i l.initial.last l.at l.count)
