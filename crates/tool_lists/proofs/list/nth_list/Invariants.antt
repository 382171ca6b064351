-- `tool_lists::list::nth_list` is safe: each list has at most so many numbers.
use Prim.Native.Nat.{◌+◌, ◌*◌, ◌≤◌}
use Rattle.tool_lines.specs.Limits.{most_numbers}
use Rattle.tool_lists.proofs.list.nth_list.Given as goal

abbrev pub invariant-loop : goal.invariant-loop
invariant-loop l = l.at ≤ 1 + (1 + most_numbers) * l.counter
