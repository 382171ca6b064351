-- `log_frame::read::read_ends` meets its contract. The invariant: what is read so far.
use mathlib.Core.Path.{◌≡◌}
use Prim.Native.Nat.{ℕ, ◌+◌}
use lib.ListN.{length}
use Rattle.words.specs.Word.{firsts}
use Rattle.log_digits.specs.Digits.{byte_at}
use Rattle.log_frame.specs.Read.{over}
use Rattle.log_frame.proofs.read.read_ends.Given as goal

abbrev pub invariant-loop-i : goal.invariant-loop-i
invariant-loop-i l = (length l.ends ≡ length l.initial.ends) × (l.ends ≡ over (firsts (λ (j : ℕ). byte_at l.line (l.at + j)) l.i) l.initial.ends)
