-- A pass over the edges of a list of words, which carries some values beside them: what a visit makes of both.
use Rattle.std.specs.Prelude.{◌≡◌, List, ℕ, length, ℤ}
use Rattle.axis.specs.declared.edge.Axis.{Axis}
use Rattle.axis.specs.declared.kinds.Dimension.{Dimension}
use Rattle.words_edge.specs.Whole.{Whole, axis_in}

-- the words are still those of their edges, as many, and on every dimension they and the values are what the visit of edge i makes of the state that they were; `of` is the state of an axis
-- and the values
pub record Visited {R S : Type 0} (of : Axis → R → S) (visit : S → ℕ → S) (i : ℕ) (v v' : R) (ws ws' : List ℤ) : Type 0 where
  pub whole : Whole ws'
  pub long : length ws' ≡ length ws
  pub state : (d : Dimension) → visit (of (axis_in ws d) v) i ≡ of (axis_in ws' d) v'
