-- What the call changes: position and done of the third stem and of the edge that it is linked to, the positions of the serifs of twelve edges, each then
-- marked as moved by the
-- rule, and nothing else; a refusal nothing.
use mathlib.Core.Path.{refl, sym, ap, subst}
use mathlib.Core.List.{List}
use Prim.Native.Nat.{ℕ}
use lib.ListN.{length}
use Rattle.axis.specs.declared.kinds.Group.{Group}
use Rattle.axis.specs.declared.edge.Edge.{Edge}
use Rattle.axis.specs.declared.edge.Axis.{Axis}
use Rattle.axis.specs.Changes.{OnlyEdges, Changes}
use Rattle.lowercase_m.specs.M.{hint_lowercase_m, mExtent}
use Rattle.lowercase_m.proofs.Changed.{changed as axis-changed}
use Rattle.lowercase_m_list.specs.M.{axis_of, hint_lowercase_m_list, HintsLowercaseMList}

by-rule : (l : List Edge) (group : Group) → Changes (OnlyEdges (mExtent l (length l))) (hint_lowercase_m_list l group).answer l
    (hint_lowercase_m_list l group).edges
unfolding hint_lowercase_m_list
by-rule l group =
    let h = axis-changed (axis_of l) group {r = hint_lowercase_m (axis_of l) group} refl in
    record { refused = λ q. ap (λ (axis : Axis). axis.edges) (h.refused q); only = h.only.edges }

pub changed : (l : List Edge) (group : Group) {a : ℕ} {m : List Edge} → HintsLowercaseMList l group a m → Changes (OnlyEdges (mExtent l (length l))) a l m
changed l group {a} {m} p =
    let Small = OnlyEdges (mExtent l (length l)) in
    subst (λ (k : ℕ). Changes Small k l m) (sym p.answer) (subst (Changes Small (hint_lowercase_m_list l group).answer l) (sym p.edges) (by-rule l group))
