-- The call on the first edges of a table.
use Rattle.std.specs.Prelude.{List, ◌++◌, ℕ, take, drop}
use Rattle.axis.specs.declared.kinds.Group.{Group}
use Rattle.axis.specs.declared.edge.Edge.{Edge}
use Rattle.jobs.specs.declared.first.First.{First}
use Rattle.lowercase_m_list.specs.M.{hint_lowercase_m_list}

-- the first n edges are the list that is lent; those behind them stay
unfoldable pub hint_first : List Edge → ℕ → Group → First
hint_first edges n group = record {
  answer = (hint_lowercase_m_list (take n edges) group).answer;
  edges = (hint_lowercase_m_list (take n edges) group).edges ++ drop n edges;
}
