-- Remaining edges over lent edges, the dimension, the group, how many edges stems have passed over and the anchor or its absence; a place is lent for the anchor found. The dimension decides nothing.
use Rattle.std.specs.Prelude.{◌≡◌, true, false, ◌&&◌, List, ℕ, length, ℤ}
use Rattle.signed.specs.Parts.{up}
use Rattle.axis.specs.declared.kinds.Dimension.{Dimension}
use Rattle.axis.specs.declared.kinds.Group.{Group}
use Rattle.words.specs.Field.{group_of, link_word}
use Rattle.words.specs.Edge.{edges_over}
use Rattle.words_shape.specs.Shape.{is_in, choice, index}
use Rattle.words_call.specs.Lent.{Lent, edges_front, both_in, named_anchor, edges_of}
use Rattle.words_edge.specs.Whole.{axis_in}
use Rattle.remaining.specs.declared.kinds.Progress.{Progress}
use Rattle.remaining.specs.Remaining.{state, pass_of, Remaining, align_remaining_edges}
use Rattle.remaining_pass_words.specs.Words.{Passed, passing}

-- ---- the loops over a copy
-- the words are as many, and what the loops make of them, or, where a position was given that no edge may have, as they were
pub record Tried (group : Group) (past r : Progress) (ws ws' : List ℤ) : Type 0 where
  pub long : length ws' ≡ length ws
  pub known : (d : Dimension) → r ≡ (pass_of group (state (axis_in ws d) past)).past
  pub stays : r.beyond ≡ true → ws' ≡ ws
  pub goes : r.beyond ≡ false → Passed (passing group) past r ws ws'

-- ---- the call
-- what it hands back
abbrev pub remaining_aligned : List ℤ → ℤ → ℤ → ℤ → Remaining
remaining_aligned ws group count anchor = align_remaining_edges (edges_of ws) (group_of group) (up count) (named_anchor anchor)

-- the edges, and the anchor
abbrev pub remaining_words : List ℤ → Remaining → List ℤ × ℤ
remaining_words ws r = (edges_over ws r.axis, link_word r.anchor)

abbrev pub RemainingLent : List ℤ → ℤ → ℤ → ℤ → ℤ → ℤ → ℕ → List ℤ × ℤ → Type 0
RemainingLent ws dim group count anchor found =
    Lent (edges_front ws (both_in choice dim group && is_in index count)) (remaining_aligned ws group count anchor).answer
    (remaining_words ws (remaining_aligned ws group count anchor)) (ws, found)
