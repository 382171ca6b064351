-- `replay::spell::spell` is safe, and what it wrote lies within the text.
use Rattle.std.proofs.Common.{◌≤◌}
use Rattle.tool_lists.specs.Limits.{longest}
use Rattle.replay.proofs.spell.spell.Given as goal

abbrev pub invariant-loop-i : goal.invariant-loop-i
invariant-loop-i l = l.i ≤ longest
