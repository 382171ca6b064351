-- Positions are as without marks in a lent list, as in the table form (request #105).
use mathlib.Core.Path.{◌≡◌, sym, ap, ◌∙◌}
use mathlib.Core.List.{List, map}
use lib.ListN.{length-map}
use Rattle.axis.specs.declared.kinds.Group.{Group}
use Rattle.axis.specs.declared.edge.Edge.{Edge}
use Rattle.axis.specs.declared.edge.Axis.{Axis}
use Rattle.axis.specs.Mark.{unmarked, unmarked_axis}
use Rattle.axis.proofs.Alike.{unmarked-alike}
use Rattle.lowercase_m.specs.Answer.{Hinted}
use Rattle.lowercase_m.proofs.Blind as Table
use Rattle.lowercase_m_list.specs.Table.{axis_with}
use Rattle.lowercase_m_list.specs.M.{axis_of, hinted, without_marks, hint_lowercase_m_list, BlindList}

-- an axis of a list without its marks is one of the list of edges without theirs
without : (l : List Edge) → unmarked_axis (axis_of l) ≡ axis_of (map unmarked l)
without l = ap (axis_with (map unmarked l)) (sym (length-map l unmarked))

same : (group : Group) (l m : List Edge) → map unmarked l ≡ map unmarked m
    → without_marks (hint_lowercase_m_list l group) ≡ without_marks (hint_lowercase_m_list m group)
unfolding hint_lowercase_m_list
same group l m e =
    ap (λ (h : Hinted). hinted h.axis.edges h.answer)
    ((Table.marks-unread group).whatever (axis_of l) (axis_of m) (without l ∙ ap axis_of e ∙ sym (without m)))

pub marks-unread : (group : Group) → BlindList (λ (l : List Edge). hint_lowercase_m_list l group)
marks-unread group = record {
  whatever = same group;
  before = λ (l : List Edge). same group (map unmarked l) l (ap (λ (axis : Axis). axis.edges) (unmarked-alike (axis_of l)).same);
}
