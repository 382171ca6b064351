-- `label::main` is safe.
use Rattle.std.proofs.Common.{◌≡◌, length}
use Rattle.tool_lines.specs.Limits.{most_words}
use Rattle.label.proofs.main.Given as goal

abbrev pub invariant-loop : goal.invariant-loop
invariant-loop l = (length l.byte ≡ 1) × (length l.words ≡ most_words)
