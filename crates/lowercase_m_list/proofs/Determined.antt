-- The promise of `hint_lowercase_m` determines the answer and the list: two outcomes that it allows coincide.
use Rattle.std.specs.Prelude.{Result}
use mathlib.Core.Path.{◌≡◌, sym, ◌∙◌}
use mathlib.Core.List.{List}
use Prim.Native.Nat.{ℕ}
use Rattle.refusals.specs.declared.order.Refusal.{Refusal}
use Rattle.refusals.specs.Outcome.{answer_of}
use Rattle.refusals.proofs.Outcomes.{answer-one}
use Rattle.axis.specs.declared.kinds.Group.{Group}
use Rattle.axis.specs.declared.edge.Edge.{Edge}
use Rattle.lowercase_m_list.specs.M.{HintsLowercaseMList}

pub determined : (l : List Edge) (group : Group) {a b : ℕ} {m n : List Edge} → HintsLowercaseMList l group a m → HintsLowercaseMList l group b n
    → (a ≡ b) × (m ≡ n)
determined l group p q = (p.answer ∙ sym q.answer, p.edges ∙ sym q.edges)

-- and so do two results, with the list left
pub determined-result : (l : List Edge) (group : Group) {r s : Result (Unit {0}) Refusal} {m n : List Edge}
    → HintsLowercaseMList l group (answer_of r) m → HintsLowercaseMList l group (answer_of s) n → (r ≡ s) × (m ≡ n)
determined-result l group {r} {s} p q = let w = determined l group p q in (answer-one r s w.0, w.1)
