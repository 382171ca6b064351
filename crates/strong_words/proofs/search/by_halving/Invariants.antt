-- `strong_words::search::by_halving` meets its contract. The invariant: what is left is halved on.
use native.Mathlib.Omega.{arith}
use mathlib.Core.Path.{◌≡◌, sym, ap, ◌∙◌}
use mathlib.Core.Bool.{Bool}
use Prim.Native.Nat.{ℕ, ◌-◌, ◌≤◌}
use lib.IntN.{ℤ}
use lib.Signed.{lt_z}
use mir.Syntax.{w32}
use mir.Val.{to_z, of_z}
use Rattle.signed.proofs.Signed.{is}
use Rattle.words.specs.Edge.{edges_in}
use Rattle.words.proofs.Fields.{kept}
use Rattle.words_call.specs.Lent.{edges_of}
use Rattle.strong.specs.Strong.{middle, by_halving, fpos_at}
use Rattle.strong.proofs.Search.{steps-start, step-low, step-on, step-high, steps-end}
use Rattle.strong_words.proofs.search.by_halving.Given as goal

abbrev pub invariant-loop-low : goal.invariant-loop-low
invariant-loop-low l = (l.high ≤ edges_in l.words)
    × (by_halving (fpos_at (edges_of l.words)) l.u (edges_in l.words) 0 (edges_in l.words) ≡ by_halving (fpos_at (edges_of l.words)) l.u (l.high - l.low) l.low l.high)

abbrev pub decreases-loop-low : goal.decreases-loop-low
decreases-loop-low l = l.high - l.low
