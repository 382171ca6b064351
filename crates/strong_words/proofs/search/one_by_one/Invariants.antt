-- `strong_words::search::one_by_one` meets its contract. The invariant: what is left is searched.
use native.Mathlib.Omega.{arith}
use mathlib.Core.Path.{◌≡◌, sym, ap, ◌∙◌}
use mathlib.Core.Bool.{Bool}
use Prim.Native.Nat.{ℕ, ◌-◌, ◌≤◌}
use lib.IntN.{ℤ}
use lib.Signed.{le_z}
use mir.Syntax.{w32}
use mir.Val.{to_z, of_z}
use Rattle.signed.proofs.Signed.{is}
use Rattle.words.specs.Edge.{edges_in}
use Rattle.words.proofs.Fields.{kept}
use Rattle.words_call.specs.Lent.{edges_of}
use Rattle.strong.specs.Strong.{one_by_one, fpos_at}
use Rattle.strong.proofs.Search.{one-start, one-here, one_on, one_end}
use Rattle.strong_words.proofs.search.one_by_one.Given as goal

abbrev pub invariant-loop-i : goal.invariant-loop-i
invariant-loop-i l = (l.i ≤ edges_in l.words) × (one_by_one (fpos_at (edges_of l.words)) l.u 0 (edges_in l.words)
    ≡ one_by_one (fpos_at (edges_of l.words)) l.u l.i (edges_in l.words - l.i))

abbrev pub decreases-loop-i : goal.decreases-loop-i
decreases-loop-i l = l.n - l.i
