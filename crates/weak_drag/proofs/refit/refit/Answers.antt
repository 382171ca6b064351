-- `weak_drag::refit::refit` meets its contract. The invariant: p is behind the contours passed, and nothing is written.
use native.Mathlib.Omega.{arith}
use mathlib.Core.Path.{◌≡◌, refl, sym, ap, subst, ◌∙◌}
use mathlib.Core.List.{List}
use mathlib.Core.Option.{some}
use Prim.Native.Nat.{ℕ, ◌+◌, ◌≤◌, ◌<◌}
use lib.ListN.{length, get_or}
use lib.IntN.{ℤ}
use Rattle.weak_contour.specs.Steps.{Coordinates}
use Rattle.weak_contour.proofs.Searches.{marked}
use Rattle.weak.specs.Weak.{contour_of}
use Rattle.weak_known.specs.Walks.{contour, GentleOn}
use Rattle.weak_known.proofs.Rounds.{passed_none, passed-next, turn-high, on-contour, on_none}
use Rattle.weak_drag.specs.Steps.{DragDone}
use Rattle.weak_drag.proofs.Refusals.{there-touched}
use Rattle.weak_drag.proofs.Refitting.{refitted-as, gentle-here, done_none, done-contour}
use Rattle.weak_drag.proofs.refit.refit.Goals as goal

pub loop-x-init : goal.loop-x-init
loop-x-init c = (refl, passed_none _ _ (rw c.requires.accepted.marks_length c.requires.accepted.ends), omega arith)

pub overflow_add-end : goal.overflow_add-end
overflow_add-end c =
    let t : List ℕ = c.args.touched.now in
    let es : List ℕ = c.args.ends.now in
    let more : c.loop-x.x-index < length es = c.loop-x-test.true in
    let end_is : c.from-end.result + 1 ≡ get_or es c.loop-x.x-index 0 + 1 = ap (λ (x : ℕ). x + 1) c.from-end.ensures in
    let high : c.from-end.result + 1 ≤ length t = turn-high t es c.loop-x.start c.loop-x.x-index (c.from-end.result + 1) more end_is c.loop-x.invariant.1 in
    omega (arith, high, c.requires.accepted.points, c.requires.accepted.marks_length)

pub refit_contour-requires : goal.refit_contour-requires
refit_contour-requires c =
    let t : List ℕ = c.args.touched.now in
    let es : List ℕ = c.args.ends.now in
    let more : c.loop-x.x-index < length es = c.loop-x-test.true in
    let end_is : c.from-end.result + 1 ≡ get_or es c.loop-x.x-index 0 + 1 = ap (λ (x : ℕ). x + 1) c.from-end.ensures in
    let high : c.from-end.result + 1 ≤ length t = turn-high t es c.loop-x.start c.loop-x.x-index (c.from-end.result + 1) more end_is c.loop-x.invariant.1 in
    let on : (i : ℕ) → c.loop-x.start ≤ i → i < c.from-end.result + 1 → contour_of 0 es i ≡ some (contour c.loop-x.start (c.from-end.result + 1)) = on-contour t es c.loop-x.start c.loop-x.x-index (c.from-end.result + 1) more end_is c.loop-x.invariant.1 in
    let gentle : GentleOn c.args.originals.now c.args.currents.now t c.loop-x.start (c.from-end.result + 1) = gentle-here c.args.originals.now c.args.currents.now t es c.loop-x.start (c.from-end.result + 1) c.requires.gentle_all
    (omega (arith, high, c.requires.accepted.marks_length)) on in
    let a = c.requires.accepted in
    let v = c.loop-x in
    let e = v.invariant.0 in
    record {
      currents_len = (ap length e ∙ a.currents_length, a.marks_length);
      s_le_p = (v.invariant.2, c.if-p-end.true, omega (arith, high, a.marks_length), marked t c.args.p (there-touched t c.args.p c.requires.p_value));
      coordinates = (
        a.originals,
        subst Coordinates (sym e) a.currents,
        subst (λ (x : List ℤ). GentleOn c.args.originals.now x t v.start (c.from-end.result + 1)) (sym e) gentle,
      );
    }

pub shape_of-currents-then-p-end : goal.shape_of-currents-then-p-end
shape_of-currents-then-p-end c = c.refit_contour.ensures.len ∙ ap length c.loop-x.invariant.0

pub returns-then-p-end : goal.returns-then-p-end
returns-then-p-end c =
    let t : List ℕ = c.args.touched.now in
    let es : List ℕ = c.args.ends.now in
    let more : c.loop-x.x-index < length es = c.loop-x-test.true in
    let end_is : c.from-end.result + 1 ≡ get_or es c.loop-x.x-index 0 + 1 = ap (λ (x : ℕ). x + 1) c.from-end.ensures in
    let on : (i : ℕ) → c.loop-x.start ≤ i → i < c.from-end.result + 1 → contour_of 0 es i ≡ some (contour c.loop-x.start (c.from-end.result + 1)) = on-contour t es c.loop-x.start c.loop-x.x-index (c.from-end.result + 1) more end_is c.loop-x.invariant.1 in
    let v = c.loop-x in
    done-contour t es (length c.args.originals.now) c.args.p c.requires.accepted.ends c.args.originals.now c.args.currents.now v.start
    (c.from-end.result + 1)
    (on c.args.p v.invariant.2 c.if-p-end.true) _
    (refitted-as c.args.originals.now c.args.currents.now v.currents t v.start (c.from-end.result + 1) c.args.p _ v.invariant.0
    c.refit_contour.ensures)

pub loop-x-preserved : goal.loop-x-preserved
loop-x-preserved c =
    let es : List ℕ = c.args.ends.now in
    let more : c.loop-x.x-index < length es = c.loop-x-test.true in
    let end_is : c.from-end.result + 1 ≡ get_or es c.loop-x.x-index 0 + 1 = ap (λ (x : ℕ). x + 1) c.from-end.ensures in
    let v = c.loop-x in
    (v.invariant.0, passed-next c.args.touched.now es v.start v.x-index (c.from-end.result + 1) more end_is v.invariant.1, omega (arith, c.if-p-end.false))

pub shape_of-currents : goal.shape_of-currents
shape_of-currents c = ap length c.loop-x.invariant.0

pub returns : goal.returns
returns c = let v = c.loop-x in
    let a = c.args in
    subst (DragDone a.originals.now a.currents.now a.touched.now a.ends.now a.p) (sym v.invariant.0)
    (done_none a.touched.now a.ends.now (length a.originals.now) a.p c.requires.accepted.ends a.originals.now a.currents.now
    (on_none a.touched.now a.ends.now v.start v.x-index a.p v.invariant.1 c.loop-x-test.false v.invariant.2))
