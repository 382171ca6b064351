-- The length of an answer's text.
use Rattle.std.specs.Prelude.{ℕ, ◌+◌, ◌*◌}
use Rattle.tool_lists.specs.Limits.{longest}

-- bytes of the longest answer: eight digits a word, and a line feed
abbrev pub most_text : ℕ
most_text = 8 * longest + 1
