-- `replay::replay` is safe: every block keeps the buffers' lengths.
use Rattle.std.proofs.Common.{◌≡◌, length}
use Rattle.tool_lines.specs.Limits.{most_words}
use Rattle.tool_lists.specs.Limits.{longest}
use Rattle.replay.specs.Limits.{most_text}
use Rattle.replay.proofs.replay.Given as goal

abbrev pub invariant-loop : goal.invariant-loop
invariant-loop g l = (length l.words ≡ most_words) × ((length l.out ≡ longest) × (length l.text ≡ most_text))
