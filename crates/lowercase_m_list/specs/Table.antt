-- What the steps over the working table promise each other.
use Rattle.std.specs.Prelude.{Result, Ok, Err, List, ◌++◌, ℕ, take, drop, replicate}
use Rattle.refusals.specs.Refusal.{answered}
use Rattle.axis.specs.declared.kinds.Group.{Group}
use Rattle.axis.specs.declared.kinds.Dimension.TheVariants as Dimensions
use Rattle.axis.specs.declared.kinds.Direction.TheVariants as Directions
use Rattle.axis.specs.declared.edge.Edge.{Edge}
use Rattle.axis.specs.declared.edge.Axis.{Axis}
use Rattle.axis.specs.Edge.{empty_edge}
use Rattle.axis.specs.Limits.{most_edges}
use Rattle.lowercase_m.specs.Answer.{Hinted}
use Rattle.lowercase_m.specs.M.{hint_lowercase_m}
use Rattle.refusals.specs.declared.order.Refusal.{Refusal}
use Rattle.refusals.specs.Outcome.{number_of}

-- a table of empty edges
unfoldable pub empty_table : List Edge
empty_table = replicate most_edges empty_edge

-- the second list with the first n edges of the first one in front
unfoldable pub copied : ℕ → List Edge → List Edge → List Edge
copied n from to = take n from ++ drop n to

-- an axis over a table; the rule reads neither its dimension nor its major direction
abbrev pub axis_with : List Edge → ℕ → Axis
axis_with edges len = record { dim = Dimensions.Horizontal; major_dir = Directions.None; edges = edges; len = len }

-- an answer, how many edges of a table are to be put back, and the table
pub record Table : Type 0 where
  pub answer : ℕ
  pub count : ℕ
  pub edges : List Edge

-- the answer, and beside a refusal the table that was given, of which none are to be put back
abbrev pub table_given : List Edge → ℕ → Result (List Edge) Refusal → Table
table_given given len (Ok edges) = record { answer = 0; count = len; edges = edges }
table_given given len (Err r) = record { answer = number_of r; count = 0; edges = given }

-- the table form's answer and edges, and how many of them are to be put back: none beside a refusal
abbrev pub table_of : Hinted → ℕ → Table
table_of h len = record { answer = h.answer; count = answered h.answer (λ (k : ℕ). 0) len; edges = h.axis.edges }

-- the table form on such an axis
unfoldable pub hint_table : List Edge → ℕ → Group → Table
hint_table edges len group = table_of (hint_lowercase_m (axis_with edges len) group) len
