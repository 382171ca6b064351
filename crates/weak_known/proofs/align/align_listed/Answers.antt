-- `weak_known::align::align_listed` meets its contract. The invariant: the contours passed are aligned, and nothing behind them is written.
use native.Mathlib.Omega.{arith}
use mathlib.Core.Path.{◌≡◌, sym, ◌∙◌}
use Prim.Native.Nat.{◌+◌}
use Rattle.weak.proofs.Refusals.{end-at}
use Rattle.weak.proofs.Contours.{sofar-all}
use Rattle.weak_known.specs.Walks.{Says, CoordinatesOn}
use Rattle.weak_known.proofs.Listed.{coordinates-on, gentle-on, says, sofar-round}
use Rattle.weak_known.proofs.Fitting.{shown-lone, shown-two}
use Rattle.weak_known.proofs.align.align_listed.Goals as goal
use Rattle.weak_known.proofs.align.align_listed.Goals.{then-show_two, else-show_two}

pub overflow_add-end : goal.overflow_add-end
overflow_add-end c =
    let r = end-at _ _ _ _ c.loop-x-test.true c.loop-x.invariant.ends in
    omega (arith, c.well_formed)

pub show_two-requires : goal.show_two-requires
show_two-requires c =
    let r = end-at _ _ _ _ c.loop-x-test.true c.loop-x.invariant.ends in
    (omega arith, omega arith, omega arith, omega arith)

pub align_round-requires : goal.align_round-requires
align_round-requires c =
    let r = end-at _ _ _ _ c.loop-x-test.true c.loop-x.invariant.ends in
    let l = c.loop-x in
    let a = c.args in
    let said : Says a.touched.now a.before.now a.behind.now l.start (c.from-end.result + 1) =
    says a.originals.now a.currents.now a.touched.now a.ends.now l.x-index l.start c.from-end.result l.currents c.from-end.ensures
    c.loop-x-test.true l.invariant a.before.now a.behind.now c.requires.accepted.marks_length c.requires.before_len.2 in
    let accepted : CoordinatesOn l.currents l.start (c.from-end.result + 1) =
    coordinates-on a.originals.now a.currents.now a.touched.now a.ends.now l.x-index l.start c.from-end.result l.currents
    c.from-end.ensures c.loop-x-test.true l.invariant c.requires.accepted.currents in
    record {
      currents_len = (
        l.invariant.len ∙ c.requires.accepted.currents_length,
        c.requires.accepted.marks_length,
        c.requires.before_len.0,
        c.requires.before_len.1,
      );
      s_le_e = (omega arith, omega arith, omega arith);
      coordinates = (c.requires.accepted.originals, accepted);
      gentle_on = gentle-on a.originals.now a.currents.now a.touched.now a.ends.now l.x-index l.start c.from-end.result l.currents
          c.from-end.ensures c.loop-x-test.true l.invariant c.requires.gentle_all;
      two_on = (
        shown-two a.touched.now l.start (c.from-end.result + 1) (omega arith) (omega arith) a.before.now a.behind.now
            (sym c.show_two.ensures ∙ c.if-show_two.true) said,
        said,
      );
    }

pub align_lone-requires : goal.align_lone-requires
align_lone-requires c =
    let r = end-at _ _ _ _ c.loop-x-test.true c.loop-x.invariant.ends in
    let l = c.loop-x in
    let a = c.args in
    let said : Says a.touched.now a.before.now a.behind.now l.start (c.from-end.result + 1) =
    says a.originals.now a.currents.now a.touched.now a.ends.now l.x-index l.start c.from-end.result l.currents c.from-end.ensures
    c.loop-x-test.true l.invariant a.before.now a.behind.now c.requires.accepted.marks_length c.requires.before_len.2 in
    let accepted : CoordinatesOn l.currents l.start (c.from-end.result + 1) =
    coordinates-on a.originals.now a.currents.now a.touched.now a.ends.now l.x-index l.start c.from-end.result l.currents
    c.from-end.ensures c.loop-x-test.true l.invariant c.requires.accepted.currents in
    record {
      currents_len = (l.invariant.len ∙ c.requires.accepted.currents_length, c.requires.accepted.marks_length, omega arith, omega arith);
      coordinates = (
        c.requires.accepted.originals,
        accepted,
        shown-lone a.touched.now l.start (c.from-end.result + 1) (omega arith) (omega arith) a.before.now a.behind.now
            (sym c.show_two.ensures ∙ c.if-show_two.false) said,
      );
    }

pub loop-x-preserved : goal.loop-x-preserved
loop-x-preserved c =
    let l = c.loop-x in
    let a = c.args in
    elim c.if-show_two.branch [
      | then-show_two w ↦ rw (w.currents-is, w.start-is)
          (sofar-round a.originals.now a.currents.now a.touched.now a.ends.now l.x-index l.start c.from-end.result l.currents c.from-end.ensures
          c.loop-x-test.true l.invariant _ c.requires.accepted.currents_length w.align_round.ensures)
      | else-show_two w ↦ rw (w.currents-is, w.start-is)
          (sofar-round a.originals.now a.currents.now a.touched.now a.ends.now l.x-index l.start c.from-end.result l.currents c.from-end.ensures
          c.loop-x-test.true l.invariant _ c.requires.accepted.currents_length w.align_lone.ensures)
    ]

pub returns : goal.returns
returns c = sofar-all _ _ _ _ _ _ _ c.loop-x.invariant c.loop-x-test.false
