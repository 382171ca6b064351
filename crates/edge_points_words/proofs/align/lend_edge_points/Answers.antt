-- `edge_points_words::align::lend_edge_points` meets its contract.
use native.Mathlib.Omega.{arith}
use mathlib.Core.Path.{◌≡◌, ap, ◌∙◌}
use Prim.Native.Nat.{ℕ}
use lib.IntN.{ℤ}
use mathlib.Core.List.{List}
use mir.Syntax.{w32}
use mir.Val.{to_z, of_z}
use Rattle.signed.proofs.Signed.{is}
use Rattle.refusals.specs.Refusal.{refusal}
use Rattle.refusals.proofs.Outcomes.{exit, number-above}
use Rattle.words.specs.Field.{choice_of}
use Rattle.words_call.proofs.Lents.{refused-before}
use Rattle.edge_points.specs.Steps.{points}
use Rattle.edge_points_words.specs.Align.{points_front}
use Rattle.edge_points_words.proofs.Lending.{Shown, shown, refuses, accepted, near, moved}
use Rattle.edge_points_words.proofs.align.lend_edge_points.Goals as goal

-- the tests in front, by the choices as the machine reads them
front-is : (ws es : List ℤ) {snap alone snap' alone' : ℤ} (c : List ℤ) (t : List ℕ) {k : ℕ} → k ≡ refusal (points_front ws es snap' alone' c t) → snap' ≡ snap
    → alone' ≡ alone → k ≡ refusal (points_front ws es snap alone c t)
front-is ws es c t e p q = e ∙ (λ x. refusal (points_front ws es (p x) (q x) c t))

pub points_front-requires : goal.points_front-requires
points_front-requires c = c.tables_hold-held.ensures

pub returns-in_err-points_front : goal.returns-in_err-points_front
returns-in_err-points_front c =
    let a = c.args in
    rw (exit _ _ c.from_residual.ensures.1)
    (refused-before (front-is a.segments.now a.edges.now a.currents.now a.touched.now c.in_err-points_front.ensures (is c.ranges.snap) (is c.ranges.alone))
    (number-above _))

pub points_refusal-requires : goal.points_refusal-requires
points_refusal-requires c =
    let a = c.args in
    let f = front-is a.segments.now a.edges.now a.currents.now a.touched.now c.in_ok-points_front.ensures (is c.ranges.snap) (is c.ranges.alone) in
    let s = shown a.segments.now a.edges.now a.snap a.alone a.ends.now (points a.currents.now a.touched.now) f (omega arith) in
    record {
      held = c.tables_hold-held.ensures;
      whole = (s.segments, s.edges);
      currents_len_bound = (s.few, s.same);
    }

pub returns-in_err-points_refusal : goal.returns-in_err-points_refusal
returns-in_err-points_refusal c =
    let a = c.args in
    let f = front-is a.segments.now a.edges.now a.currents.now a.touched.now c.in_ok-points_front.ensures (is c.ranges.snap) (is c.ranges.alone) in
    rw (exit _ _ c.from_residual-in_err-points_refusal.ensures.1)
    (refuses a.segments.now a.edges.now a.snap a.alone a.ends.now (points a.currents.now a.touched.now) f (omega arith)
    (c.choice_of-alone.ensures ∙ ap choice_of (is c.ranges.alone)) c.in_err-points_refusal.ensures (number-above _))

pub move_all-requires : goal.move_all-requires
move_all-requires c =
    let a = c.args in
    let f = front-is a.segments.now a.edges.now a.currents.now a.touched.now c.in_ok-points_front.ensures (is c.ranges.snap) (is c.ranges.alone) in
    let g = c.choice_of-alone.ensures ∙ ap choice_of (is c.ranges.alone) in
    let s = shown a.segments.now a.edges.now a.snap a.alone a.ends.now (points a.currents.now a.touched.now) f (omega arith) in
    record {
      accepted = accepted a.segments.now a.edges.now a.snap a.alone a.ends.now (points a.currents.now a.touched.now) f (omega arith) g
          c.in_ok-points_refusal.ensures (omega arith);
      touched_len = (
        s.same,
        near a.segments.now a.edges.now a.snap a.alone a.ends.now (points a.currents.now a.touched.now) f (omega arith) g c.in_ok-points_refusal.ensures (omega arith),
      );
    }

pub returns : goal.returns
returns c =
    let a = c.args in
    let f = front-is a.segments.now a.edges.now a.currents.now a.touched.now c.in_ok-points_front.ensures (is c.ranges.snap) (is c.ranges.alone) in
    moved a.segments.now a.edges.now a.snap a.alone a.ends.now (points a.currents.now a.touched.now) f (omega arith)
    (c.choice_of-alone.ensures ∙ ap choice_of (is c.ranges.alone)) c.in_ok-points_refusal.ensures (omega arith) _
    (c.choice_of-snap.ensures ∙ ap choice_of (is c.ranges.snap)) c.move_all.ensures
