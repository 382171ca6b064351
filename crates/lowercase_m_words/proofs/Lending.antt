-- The m rule over lent edges, by what the test of its edges tells.
use Rattle.std.specs.Prelude.{Result}
use mathlib.Core.Path.{◌≡◌, refl, sym, ap, ◌∙◌}
use mathlib.Core.Bool.{Bool, true, false}
use mathlib.Core.List.{List}
use Prim.Native.Nat.{ℕ, ◌<◌, ◌≤◌}
use native.Mathlib.Omega.{arith}
use lib.Dec.{leb}
use lib.IntN.{ℤ}
use Rattle.refusals.proofs.Tests.{or-held}
use Rattle.refusals.specs.declared.order.Refusal.{Refusal}
use Rattle.refusals.specs.declared.order.Refusal.TheVariants as Refusals
use Rattle.refusals.specs.Outcome.{answer_of, Required}
use Rattle.refusals.specs.Refusal.{bad_parameter, refusal, or_refused}
use Rattle.axis.specs.declared.kinds.Dimension.TheVariants as Dimensions
use Rattle.axis.specs.declared.kinds.Group.{Group}
use Rattle.axis.specs.Limits.{most_edges, most_pos}
use Rattle.axis.specs.Accepted.{AxisWithin}
use Rattle.lowercase_m.specs.Answer.{Hinted}
use Rattle.lowercase_m.specs.M.{count_holds, mTests, hinted, hint_lowercase_m}
use Rattle.words.specs.Field.{group_of}
use Rattle.words.specs.Edge.{edges_in, edges_over}
use Rattle.words_shape.specs.Shape.{is_in, choice}
use Rattle.words_call.specs.Lent.{refused_or, edges_front, edges_of}
use Rattle.words_edge.specs.Whole.{Whole, Became}
use Rattle.words_edge.proofs.Wholes.{edges-len}
use Rattle.words_edge.proofs.Became.{became-over}
use Rattle.words_edge_test.specs.Held.{tested}
use Rattle.words_edge_test.proofs.Calls.{ready, call-refused, call-done}
use Rattle.words_edge_test.proofs.Order.{own-tests}
use Rattle.lowercase_m_words.specs.M.{aligning}
use Rattle.lowercase_m_words.specs.Lent.{MLent}

-- the outcome of the test of the count, as an answer
pub own-is : (right : Bool) (own : Result (Unit {0}) Refusal) → Required right Refusals.BadParameter own → answer_of own ≡ or_refused 0 right bad_parameter
unfolding or_refused
own-is true own q = ap answer_of q.outcome
own-is false own q = ap answer_of q.outcome

pub record ReadyM (ws : List ℤ) : Type 0 where
  pub whole : Whole ws
  pub axis : AxisWithin most_pos (edges_of ws)
  pub count : count_holds (edges_in ws) ≡ true

module _ (ws : List ℤ) (group : ℤ) {own r : ℕ} {others : Bool} (o : own ≡ or_refused 0 (count_holds (edges_in ws)) bad_parameter) (t : others ≡ is_in choice group)
    (e : r ≡ refused_or (edges_front ws others) (tested (edges_of ws) own true true)) where
  m-is : r ≡ refused_or (edges_front ws (is_in choice group)) (tested (edges_of ws) (or_refused 0 (count_holds (edges_of ws).len) bad_parameter) true true)
  m-is =
      e ∙ (λ x. refused_or (edges_front ws (t x))
      (tested (edges_of ws) ((o ∙ ap (λ (n : ℕ). or_refused 0 (count_holds n) bad_parameter) (sym (edges-len ws))) x) true true))

  m-same : leb (edges_of ws).len most_edges ≡ true → refusal (mTests (edges_of ws))
      ≡ tested (edges_of ws) (or_refused 0 (count_holds (edges_of ws).len) bad_parameter) true true
  unfolding refusal
  m-same h = own-tests (edges_of ws) true true h bad_parameter (count_holds (edges_of ws).len) (omega arith)

  pub m-ready : r ≤ 0 → ReadyM ws
  m-ready h =
      let a = ready ws others own true true e h in
      record { whole = a.whole; axis = a.axis; count = or-held bad_parameter (count_holds (edges_in ws)) (omega arith) (sym o ∙ a.right) }

  pub m-refused : 0 < r → MLent ws group r ws
  unfolding hint_lowercase_m
  m-refused h =
      call-refused ws (is_in choice group) _ true true m-is (λ (x : Hinted). x.answer) (λ (x : Hinted). edges_over ws x.axis) (mTests (edges_of ws))
      (hinted (edges_of ws))
      (hinted (aligning (group_of group) (edges_of ws)) 0) (λ k. refl) refl m-same h

  pub m-done : r ≤ 0 → {g : Group} → g ≡ group_of group → (now : List ℤ) → Became (aligning g) ws now → MLent ws group 0 now
  unfolding hint_lowercase_m
  m-done h {g} q now b =
      call-done ws (is_in choice group) _ true true m-is (λ (x : Hinted). x.answer) (λ (x : Hinted). edges_over ws x.axis) (mTests (edges_of ws))
      (hinted (edges_of ws))
      (hinted (aligning (group_of group) (edges_of ws)) 0) (λ k. refl) refl m-same h
      (became-over (m-ready h).whole b Dimensions.Horizontal ∙ (λ x. edges_over ws (aligning (q x) (edges_of ws))))
