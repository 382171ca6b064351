-- `weak_drag::refit::refit_arc` meets its contract: one stretch, or around the seam two.
use borrow.Author.Rules.{rules}
use native.Mathlib.Omega.{arith}
use mathlib.Core.Path.{◌∙◌}
use mathlib.Core.Logic.{inl, inr}
use Prim.Native.Nat.{◌≤◌}
use Rattle.weak_drag.proofs.Arcs.{arc-near, kept_from, kept-to, gentle-front, arc-seam}
use Rattle.weak_drag.proofs.refit.refit_arc.Goals as goal

pub iup_interpolate-requires : goal.iup_interpolate-requires
iup_interpolate-requires c = let w = c.requires.s_le_a in
    let x = c.requires.coordinates in
    let l = c.requires.currents_len.1 in
    record {
      currents_len = (c.requires.currents_len.0, omega (arith, c.if-a-b.true), omega (arith, w.3));
      ref1_in_bounds = (omega (arith, w.1), omega (arith, w.3));
      coordinates = (x.0, x.1, x.2, λ i a b. x.3 i (inl (omega arith, b)));
    }

pub returns-then-a-b : goal.returns-then-a-b
returns-then-a-b c = let a = c.args in
    let w = c.requires.s_le_a in
    arc-near a.originals.now a.currents.now a.s a.e a.a a.b w.0 w.1 w.2 w.3 _ c.if-a-b.true c.iup_interpolate.ensures

pub iup_interpolate-requires-2 : goal.iup_interpolate-requires-2
iup_interpolate-requires-2 c =
    let around : c.args.b ≤ c.args.a = omega (arith, c.if-a-b.false) in
    let w = c.requires.s_le_a in
    let x = c.requires.coordinates in
    let l = c.requires.currents_len.1 in
    record {
      currents_len = (c.requires.currents_len.0, omega (arith, w.1), l);
      ref1_in_bounds = (omega (arith, w.1), omega (arith, w.3));
      coordinates = (x.0, x.1, x.2, λ i a b. x.3 i (inr (inl (around, (omega arith, b)))));
    }

pub iup_interpolate-requires-3 : goal.iup_interpolate-requires-3
iup_interpolate-requires-3 c =
    let around : c.args.b ≤ c.args.a = omega (arith, c.if-a-b.false) in
    let a = c.args in
    let w = c.requires.s_le_a in
    let x = c.requires.coordinates in
    let l = c.requires.currents_len.1 in
    let v = c.iup_interpolate-2.ensures in
    record {
      currents_len = (v.len ∙ c.requires.currents_len.0, w.2, omega (arith, w.3));
      ref1_in_bounds = (omega (arith, w.1), omega (arith, w.3));
      coordinates = (
        x.0,
        rw (kept_from a.originals.now a.currents.now a.s a.e a.a a.b w.0 w.1 w.2 w.3 around _ v) x.1,
        rw (kept-to a.originals.now a.currents.now a.s a.e a.a a.b w.0 w.1 w.2 w.3 around _ v) x.2,
        gentle-front a.originals.now a.currents.now a.s a.e a.a a.b w.0 w.1 w.2 w.3 around _ v x.3,
      );
    }

pub shape_of-currents : goal.shape_of-currents
shape_of-currents c = c.iup_interpolate-3.ensures.len ∙ c.iup_interpolate-2.ensures.len

pub returns : goal.returns
returns c =
    let around : c.args.b ≤ c.args.a = omega (arith, c.if-a-b.false) in
    let a = c.args in
    let w = c.requires.s_le_a in
    arc-seam a.originals.now a.currents.now a.s a.e a.a a.b w.0 w.1 w.2 w.3 around _ c.iup_interpolate-2.ensures _
    c.iup_interpolate-3.ensures
