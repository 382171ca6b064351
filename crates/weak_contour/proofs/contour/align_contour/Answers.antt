-- `weak_contour::contour::align_contour` meets its contract, by how many points of the contour are touched.
use borrow.Author.Rules.{rules}
use native.Mathlib.Omega.{arith}
use mathlib.Core.Path.{◌≡◌, ◌∙◌}
use lib.ListN.{length}
use Rattle.weak_contour.proofs.Stretch.{done_none, done-one, done_more, kept, kept-behind, gentle-behind, gentle-front}
use Rattle.weak_contour.proofs.contour.align_contour.Goals as goal

pub returns-then-n-first : goal.returns-then-n-first
returns-then-n-first c = let a = c.args in
    let x = c.next_touched-first.ensures in
    let e : c.next_touched-first.result ≡ length a.touched.now = omega (arith, x.high) in
    done_none a.originals.now a.currents.now a.touched.now (omega arith) (rw e at x)

pub align_gaps-last-requires : goal.align_gaps-last-requires
align_gaps-last-requires c = record {
  currents_len = c.requires.currents_len;
  first_in_bounds = (omega arith, c.next_touched-first.ensures.here (omega arith));
  coordinates = c.requires.coordinates;
}

pub iup_shift-requires : goal.iup_shift-requires
iup_shift-requires c = let u = c.align_gaps-last.ensures.0 in
    let k = kept c.args.originals.now c.args.currents.now c.args.touched.now _ _ _ c.next_touched-first.ensures u c.align_gaps-last.ensures.1 in
    record {
      currents_len = (u.len ∙ c.requires.currents_len.0, omega arith, omega arith, omega (arith, u.low, u.high));
      coordinates = (c.requires.coordinates.0, rw k.1 (c.requires.coordinates.1 c.next_touched-first.result));
    }

pub returns-then-last-first : goal.returns-then-last-first
returns-then-last-first c = let a = c.args in
    let e : c.align_gaps-last.result ≡ c.next_touched-first.result = c.if-last-first.true in
    let gaps = c.align_gaps-last.ensures in
    done-one a.originals.now a.currents.now a.touched.now _ _ _ (omega arith) c.next_touched-first.ensures (rw e at gaps.0) (rw e at gaps.1)
    c.iup_shift.ensures

pub interpolate_some-requires : goal.interpolate_some-requires
interpolate_some-requires c = let u = c.align_gaps-last.ensures.0 in
    let k = kept c.args.originals.now c.args.currents.now c.args.touched.now _ _ _ c.next_touched-first.ensures u c.align_gaps-last.ensures.1 in
    record {
      currents_len = (u.len ∙ c.requires.currents_len.0, omega (arith, u.high), omega arith);
      ref1_in_bounds = (omega (arith, u.high), omega (arith, u.low, u.high));
      coordinates = (
        c.requires.coordinates.0,
        rw k.0 (c.requires.coordinates.1 c.align_gaps-last.result),
        rw k.1 (c.requires.coordinates.1 c.next_touched-first.result),
        gentle-behind
            c.args.originals.now c.args.currents.now c.args.touched.now _ _ _ c.next_touched-first.ensures u c.align_gaps-last.ensures.1
            c.requires.coordinates.2,
      );
    }

pub interpolate_some-requires-2 : goal.interpolate_some-requires-2
interpolate_some-requires-2 c = let u = c.align_gaps-last.ensures.0 in
    let w = c.interpolate_some.ensures in
    let k = kept-behind c.args.originals.now c.args.currents.now c.args.touched.now _ _ _ c.next_touched-first.ensures u
    c.align_gaps-last.ensures.1 _ w in
    record {
      currents_len = (w.len ∙ u.len ∙ c.requires.currents_len.0, omega arith, omega (arith, u.low, u.high));
      ref1_in_bounds = (omega (arith, u.high), omega (arith, u.low, u.high));
      coordinates = (
        c.requires.coordinates.0,
        rw k.0 (c.requires.coordinates.1 c.align_gaps-last.result),
        rw k.1 (c.requires.coordinates.1 c.next_touched-first.result),
        gentle-front
            c.args.originals.now c.args.currents.now c.args.touched.now _ _ _ c.next_touched-first.ensures u c.align_gaps-last.ensures.1 _ w
            c.requires.coordinates.2,
      );
    }

pub returns : goal.returns
returns c = let a = c.args in
    let gaps = c.align_gaps-last.ensures in
    done_more a.originals.now a.currents.now a.touched.now _ _ _ c.next_touched-first.ensures gaps.0 gaps.1 _ c.interpolate_some.ensures _
    (omega arith)
    c.if-last-first.false
    c.interpolate_some-2.ensures
