-- The lowercase m rule on a lent list (document 01, module 6): the rule, on the axis whose edges are the list.
use Rattle.std.specs.Prelude.{◌≡◌, List, map, ℕ, length}
use Rattle.axis.specs.declared.kinds.Group.{Group}
use Rattle.axis.specs.declared.edge.Edge.{Edge}
use Rattle.axis.specs.declared.edge.Axis.{Axis}
use Rattle.axis.specs.Mark.{unmarked}
use Rattle.lowercase_m.specs.M.{hint_lowercase_m}
use Rattle.lowercase_m_list.specs.Table.{axis_with}

-- the axis that has the list's edges, and no other places
abbrev pub axis_of : List Edge → Axis
axis_of l = axis_with l (length l)

-- an answer, and the list after it
pub record Hinted : Type 0 where
  pub answer : ℕ
  pub edges : List Edge

abbrev pub hinted : List Edge → ℕ → Hinted
hinted l k = record { answer = k; edges = l }

-- the same without marks
abbrev pub without_marks : Hinted → Hinted
without_marks r = hinted (map unmarked r.edges) r.answer

-- the refusal and the list as it came, or 0 and the list after the rule
unfoldable pub hint_lowercase_m_list : List Edge → Group → Hinted
hint_lowercase_m_list l group = hinted (hint_lowercase_m (axis_of l) group).axis.edges (hint_lowercase_m (axis_of l) group).answer

-- what the call owes its caller: the answer a, and the list m that it leaves
pub record HintsLowercaseMList (l : List Edge) (group : Group) (a : ℕ) (m : List Edge) : Type 0 where
  pub answer : a ≡ (hint_lowercase_m_list l group).answer
  pub edges : m ≡ (hint_lowercase_m_list l group).edges

-- positions are as without marks, as `Blind` has it of an axis
pub record BlindList (call : List Edge → Hinted) : Type 0 where
  pub whatever : (l m : List Edge) → map unmarked l ≡ map unmarked m → without_marks (call l) ≡ without_marks (call m)
  pub before : (l : List Edge) → without_marks (call (map unmarked l)) ≡ without_marks (call l)
