-- The linking call, by what the test of its segments tells.
use Rattle.std.specs.Prelude.{Result}
use mathlib.Core.Path.{◌≡◌, refl, sym, ap, ◌∙◌}
use mathlib.Core.Bool.{Bool, true, false}
use mathlib.Core.List.{List}
use Prim.Native.Nat.{ℕ, ◌<◌, ◌≤◌}
use native.Mathlib.Omega.{arith}
use lib.IntN.{ℤ, pos}
use lib.Signed.{◌≤ℤ◌}
use Rattle.refusals.proofs.Tests.{or-held}
use Rattle.refusals.specs.declared.order.Refusal.{Refusal}
use Rattle.refusals.specs.declared.order.Refusal.TheVariants as Refusals
use Rattle.refusals.specs.Outcome.{answer_of, Required}
use Rattle.refusals.specs.Refusal.{bad_parameter, refusal, or_refused}
use Rattle.axis.specs.declared.kinds.Direction.{Direction}
use Rattle.axis.specs.declared.segment.Segments.{Segments}
use Rattle.link.specs.declared.thresholds.Thresholds.{Thresholds}
use Rattle.link.specs.Rounds as Rounds
use Rattle.link.specs.Answer.{Linked}
use Rattle.link.specs.Linking.{thresholds_of, numbers_hold, linking_tests, beside, link_segments_cjk}
use Rattle.link.proofs.Numbers.{len-not-below-0}
use Rattle.words.specs.Field.{direction_of}
use Rattle.words.specs.Segment.{flat_segments, segments_over}
use Rattle.words_shape.specs.Shape.{is_in, direction}
use Rattle.words_call.specs.Lent.{refused_or, segments_front}
use Rattle.words_edge_test.proofs.Calls.{lent-refused, lent-done}
use Rattle.words_segment.specs.Whole.{Became}
use Rattle.words_segment.proofs.Became.{became-over}
use Rattle.words_segment_test.specs.Held.{tested}
use Rattle.words_segment_test.proofs.Calls.{short, ready, next-tests}
use Rattle.link_words.specs.Linking.{Linkable}
use Rattle.link_words.specs.Lent.{LinkingLent}

-- the outcome of the test of the numbers, as an answer
pub own-is : (right : Bool) (own : Result (Unit {0}) Refusal) → Required right Refusals.BadParameter own → answer_of own ≡ or_refused 0 right bad_parameter
unfolding or_refused
own-is true own q = ap answer_of q.outcome
own-is false own q = ap answer_of q.outcome

-- what the rounds may use
pub record ReadyLinking (ws : List ℤ) (upem scale : ℤ) : Type 0 where
  pub sound : Linkable ws
  pub numbers : numbers_hold upem scale ≡ true

module _ (ws : List ℤ) (major upem scale : ℤ) {own r : ℕ} {right others : Bool} (n : right ≡ numbers_hold upem scale)
    (o : own ≡ or_refused 0 right bad_parameter) (t : others ≡ is_in direction major)
    (e : r ≡ refused_or (segments_front ws true others) (tested (flat_segments ws) own true true)) where
  abbrev T : Segments
  T = flat_segments ws

  abbrev linked : Segments
  linked = Rounds.linked (direction_of major) (thresholds_of upem scale) T

  linking-is : r ≡ refused_or (segments_front ws true (is_in direction major)) (tested T (or_refused 0 (numbers_hold upem scale) bad_parameter) true true)
  linking-is = e ∙ (λ x. refused_or (segments_front ws true (t x)) (tested T ((o ∙ ap (λ (b : Bool). or_refused 0 b bad_parameter) n) x) true true))

  linking-same : refusal (segments_front ws true (is_in direction major)) ≡ 0
      → refusal (linking_tests T upem scale) ≡ tested T (or_refused 0 (numbers_hold upem scale) bad_parameter) true true
  linking-same q = next-tests T bad_parameter (numbers_hold upem scale) (omega arith) (short ws true (is_in direction major) q)

  pub linking-ready : r ≤ 0 → ReadyLinking ws upem scale
  linking-ready h =
      let a = ready ws true others own true true e h in
      record { sound = record { whole = a.whole; within = a.within }; numbers = sym n ∙ or-held bad_parameter right (omega arith) (sym o ∙ a.right) }

  -- the overlap asked for is not negative
  pub linking-len : r ≤ 0 → (by : Thresholds) → by ≡ thresholds_of upem scale → pos 0 ≤ℤ by.len
  linking-len h by q = rw q (len-not-below-0 upem scale (linking-ready h).numbers)

  pub linking-refused : 0 < r → LinkingLent ws major upem scale r ws
  unfolding link_segments_cjk
  linking-refused h =
      lent-refused (segments_front ws true (is_in direction major)) _ linking-is (λ (x : Linked). x.answer) (λ (x : Linked). segments_over ws x.segments)
      (linking_tests T upem scale) (beside T)
      (beside linked 0) (λ k. refl) refl linking-same h

  pub linking-done : r ≤ 0 → (now : List ℤ) {dir : Direction} {by : Thresholds} → dir ≡ direction_of major → by ≡ thresholds_of upem scale
      → Became (Rounds.linked dir by) ws now
      → LinkingLent ws major upem scale 0 now
  unfolding link_segments_cjk
  linking-done h now p q b =
      lent-done (segments_front ws true (is_in direction major)) _ linking-is (λ (x : Linked). x.answer) (λ (x : Linked). segments_over ws x.segments)
      (linking_tests T upem scale) (beside T)
      (beside linked 0) (λ k. refl) refl linking-same h
      (became-over (linking-ready h).sound.whole b ∙ (λ x. segments_over ws (Rounds.linked (p x) (q x) T)))
