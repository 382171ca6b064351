-- Remaining edges behind the stem pass: when the Rust's `hint_edges` calls for them, and a call that changes nothing.
use Rattle.std.specs.Prelude.{◌≡◌, Bool, true, not, cond, ◌||◌, ℕ, ◌<◌, ltb}
use Rattle.refusals.specs.Refusal.{refusal}
use Rattle.axis.specs.declared.kinds.Group.{Group}
use Rattle.axis.specs.Link.{Link}
use Rattle.axis.specs.declared.edge.Axis.{Axis}
use Rattle.axis.specs.Link.{is_linked}
use Rattle.gaps.specs.Gaps.{is_done}
use Rattle.stems.specs.Answer.{Stems}
use Rattle.remaining.specs.Remaining.{table_tests, align_remaining_edges}

-- something was passed over, or there is no anchor
abbrev pub is_called_for : Stems → Bool
is_called_for passed = ltb 0 passed.count || not (is_linked passed.anchor)

-- an axis behind remaining edges, with the count and the anchor that stems hand back
abbrev pub called : Group → Stems → Axis → Axis
called group passed axis = (align_remaining_edges axis group passed.count passed.anchor).axis

-- the same where `hint_edges` calls for them, else as it is
abbrev pub called_for : Group → Stems → Axis → Axis
called_for group passed axis = cond (is_called_for passed) (called group passed axis) axis

-- the call changes nothing: the edges are as they were, it refuses for what it is given alone, by no position on the way, and hands back the anchor that it is given
pub record ChangesNothing (axis : Axis) (group : Group) (count : ℕ) (given : Link) : Type 0 where
  pub edges : (align_remaining_edges axis group count given).axis ≡ axis
  pub answer : (align_remaining_edges axis group count given).answer ≡ refusal (table_tests axis given)
  pub anchor : (align_remaining_edges axis group count given).answer ≡ 0 → (align_remaining_edges axis group count given).anchor ≡ given

-- no edge is left: every one is done, and remaining edges change nothing
pub record NoneLeft (axis : Axis) (group : Group) (count : ℕ) (given : Link) : Type 0 where
  pub done : (j : ℕ) → j < axis.len → is_done axis j ≡ true
  pub nothing : ChangesNothing axis group count given
