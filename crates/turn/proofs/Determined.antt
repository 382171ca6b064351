-- The outcome of the call: for refused tables, for accepted ones, that the promise determines it, and what is handed back.
use Rattle.std.specs.Prelude.{Result}
use mathlib.Core.Path.{◌≡◌, refl, sym, ap, subst, ◌∙◌}
use Prim.Native.Nat.{ℕ, suc, ◌<◌}
use Rattle.refusals.specs.declared.order.Refusal.{Refusal}
use Rattle.refusals.specs.Refusal.{refusal}
use Rattle.refusals.proofs.Answers.{none-refused}
use Rattle.refusals.proofs.Outcomes.{with-answer-one}
use Rattle.axis.specs.declared.edge.Edge.{Edge}
use Rattle.axis.specs.declared.edge.Axis.{Axis}
use Rattle.axis.specs.declared.segment.Segments.{Segments}
use Rattle.axis.specs.Edge.{edge_at}
use Rattle.axis.specs.Handed.{TypedAxis, Typed}
use Rattle.axis.specs.Ring.{members, Sound}
use Rattle.turn.specs.declared.turn.Turned as Both
use Rattle.turn.specs.Answer.{Turned, turned_of}
use Rattle.turn.specs.Turning.{turned_index, turned_axis, turned_segments, turning_tests, beside, turn_over, TurnsOver}
use Rattle.turn.proofs.Calls.{Taken, taken, not-refused}
use Rattle.turn.proofs.Rings as Rings
use Rattle.turn.proofs.Places.{turned-edge-at}
use Rattle.turn.proofs.Twice.{edges_whole, taken-again, axis-twice, segments-twice}

-- the record tells a result from every other, beside what was given
pub turned-one : (axis : Axis) (t : Segments) (r s : Result Both.Turned Refusal) → turned_of axis t r ≡ turned_of axis t s → r ≡ s
turned-one axis t =
    with-answer-one (turned_of axis t) (λ (x : Turned). x.answer) (λ x. refl) (λ r. refl)
    (λ x y e. λ j. record { axis = (e j).axis; segments = (e j).segments })

module _ (axis : Axis) (t : Segments) where
  -- a refusal hands back its number, and the axis and the segments as they were
  pub refused : (k : ℕ) → refusal (turning_tests axis t) ≡ suc k → turn_over axis t ≡ beside axis t (suc k)
  unfolding turn_over
  refused k e = rw e

  -- an accepted call hands back 0, and both turned over
  pub when-accepted : refusal (turning_tests axis t) ≡ 0 → turn_over axis t ≡ beside (turned_axis axis) (turned_segments axis.len t) 0
  unfolding turn_over
  when-accepted e = rw e

  -- answer 0 says that nothing was refused
  pub accepted : (turn_over axis t).answer ≡ 0 → refusal (turning_tests axis t) ≡ 0
  unfolding turn_over
  accepted e =
      none-refused (beside axis t) (beside (turned_axis axis) (turned_segments axis.len t) 0) (λ (x : Turned). x.answer) (λ j. refl)
      (refusal (turning_tests axis t)) e

  -- two outcomes that the promise of `turn_over` allows coincide
  pub determined : (x y : Turned) → TurnsOver axis t x → TurnsOver axis t y → x ≡ y
  determined x y p q = p ∙ sym q

  -- and so do two results
  pub determined-result : {r s : Result Both.Turned Refusal} → TurnsOver axis t (turned_of axis t r) → TurnsOver axis t (turned_of axis t s) → r ≡ s
  determined-result {r} {s} p q = turned-one axis t r s (determined (turned_of axis t r) (turned_of axis t s) p q)

-- ---- what an accepted call hands back
module _ (axis : Axis) (t : Segments) (w : TypedAxis axis) (v : Typed t) (e : (turn_over axis t).answer ≡ 0) where
  abbrev turned : Axis
  turned = (turn_over axis t).axis

  abbrev table : Segments
  table = (turn_over axis t).segments

  is-taken : Taken axis t
  is-taken = taken axis t (accepted axis t e)

  outcome : turn_over axis t ≡ beside (turned_axis axis) (turned_segments axis.len t) 0
  outcome = when-accepted axis t (accepted axis t e)

  -- it passes every test of the call, that of the indices too
  pub handed-on : refusal (turning_tests turned table) ≡ 0
  handed-on =
      subst (λ (x : Turned). refusal (turning_tests x.axis x.segments) ≡ 0) (sym outcome)
      (not-refused (turned_axis axis) (turned_segments axis.len t) (taken-again axis t w v is-taken))

  -- turned over twice, axis and segments are what they were
  back : beside (turned_axis (turned_axis axis)) (turned_segments (turned_axis axis).len (turned_segments axis.len t)) 0 ≡ beside axis t 0
  unfolding turned_axis
  back = λ i. beside (axis-twice axis t w v is-taken i) (segments-twice axis t w v is-taken i) 0

  pub twice : turn_over turned table ≡ beside axis t 0
  twice =
      when-accepted turned table handed-on ∙ ap (λ (x : Turned). beside (turned_axis x.axis) (turned_segments x.axis.len x.segments) 0) outcome ∙ back

  -- every edge takes its mark along
  pub same-mark : (i : ℕ) → i < axis.len → (edge_at turned i).mark ≡ (edge_at axis (turned_index axis.len i)).mark
  same-mark i h =
      ap (λ (x : Turned). (edge_at x.axis i).mark) outcome ∙ ap (λ (x : Edge). x.mark) (turned-edge-at axis (edges_whole axis t w v is-taken) i h)

  -- the ring of an edge has the same segments in the same order, sound or not
  pub same-ring : (k : ℕ) → k < axis.len → members turned table (turned_index axis.len k) ≡ members axis t k
  same-ring k h = ap (λ (x : Turned). members x.axis x.segments (turned_index axis.len k)) outcome ∙ Rings.members-same axis t w v is-taken k h

  -- and where it was sound it is sound
  pub sound-ring : (k : ℕ) → k < axis.len → Sound axis t k → Sound turned table (turned_index axis.len k)
  sound-ring k h s =
      subst (λ (x : Turned). Sound x.axis x.segments (turned_index axis.len k)) (sym outcome) (Rings.ring-sound axis t w v is-taken k h s)
