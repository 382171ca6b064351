-- `strong_words::refuse::all-placed` meets its contract.
use borrow.Author.Rules.{rules}
use native.Mathlib.Omega.{arith}
use mathlib.Core.Path.{◌≡◌, refl, sym, ap, ◌∙◌}
use mathlib.Core.Bool.{Bool, true}
use Prim.Native.Nat.{ℕ, ◌-◌, ◌≤◌}
use borrow.Author.Tests.{not-true, not-false}
use lib.ListN.{length}
use Rattle.axis.specs.Refusals.{every}
use Rattle.axis.proofs.Tests.{every-none, every_more, every-fails, every-done}
use Rattle.words_call.specs.Lent.{edges_of}
use Rattle.strong.specs.Strong.{strong_at, is_placed, all_placed}
use Rattle.strong_words.proofs.refuse.all_placed.Given as goal

abbrev pub invariant-loop-i : goal.invariant-loop-i
invariant-loop-i l = (l.i ≤ length l.fonts) × (every (λ (k : ℕ). is_placed (strong_at (edges_of l.words) l.fonts l.originals l.touched l.weak k)) l.i ≡ true)

abbrev pub decreases-loop-i : goal.decreases-loop-i
decreases-loop-i l = l.n - l.i
