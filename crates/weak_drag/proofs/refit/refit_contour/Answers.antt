-- `weak_drag::refit::refit_contour` meets its contract: the rest of the contour where p is alone, else the arcs behind it and before it.
use borrow.Author.Rules.{rules}
use native.Mathlib.Omega.{arith}
use mathlib.Core.Path.{◌≡◌, sym, subst, ◌∙◌}
use Prim.Native.Nat.{ℕ}
use mir.Syntax.{w32}
use Rattle.signed.specs.Equality.{eq_z}
use Rattle.signed.proofs.Signed.{is, fits-in}
use Rattle.signed.proofs.By.{by₂}
use Rattle.weak_contour.specs.Contour.{at, refs}
use Rattle.weak_known.proofs.Agreeing.{steep-reads}
use Rattle.weak_drag.specs.Steps.{Arc}
use Rattle.weak_drag.proofs.Arcs.{arc-gentle}
use Rattle.weak_drag.proofs.Refitting.{arc-kept, refit-still, refit-lone, refit-two}
use Rattle.weak_drag.proofs.refit.refit_contour.Goals as goal

pub next_around-next-requires : goal.next_around-next-requires
next_around-next-requires c = let w = c.requires.s_le_p in
    (w.0, w.1, omega (arith, w.2, c.requires.currents_len.1), w.3)

pub returns-then-is_still : goal.returns-then-is_still
returns-then-is_still c =
    let alone : let a = c.args in Arc a.touched.now a.s a.e a.p a.p = let a = c.args in
    subst (λ (x : ℕ). Arc a.touched.now a.s a.e a.p x) c.if-next-p.true c.next_around-next.ensures in
    let still : let a =
    c.args in c.is_still.result ≡ eq_z (at a.currents.now a.p) (at a.originals.now a.p) = by₂ eq_z c.is_still.ensures (is (fits-in w32 (c.requires.coordinates.1 c.args.p) tt tt)) (is (fits-in w32 (c.requires.coordinates.0 c.args.p) tt tt)) in
    let a = c.args in
    refit-still a.originals.now a.currents.now a.touched.now a.s a.e a.p alone (sym still ∙ c.if-is_still.true)

pub refit_arc-requires : goal.refit_arc-requires
refit_arc-requires c =
    let alone : let a = c.args in Arc a.touched.now a.s a.e a.p a.p = let a = c.args in
    subst (λ (x : ℕ). Arc a.touched.now a.s a.e a.p x) c.if-next-p.true c.next_around-next.ensures in
    let a = c.args in
    let w = c.requires.s_le_p in
    let x = c.requires.coordinates in
    record {
      currents_len = (c.requires.currents_len.0, w.2);
      s_le_a = (w.0, w.1, w.0, w.1);
      coordinates = (
        x.0,
        x.1 a.p,
        x.1 a.p,
        arc-gentle a.touched.now a.s a.e a.p a.p alone a.originals.now
            a.currents.now x.2,
      );
    }

pub returns-then-next-p : goal.returns-then-next-p
returns-then-next-p c =
    let alone : let a = c.args in Arc a.touched.now a.s a.e a.p a.p = let a = c.args in
    subst (λ (x : ℕ). Arc a.touched.now a.s a.e a.p x) c.if-next-p.true c.next_around-next.ensures in
    let still : let a =
    c.args in c.is_still.result ≡ eq_z (at a.currents.now a.p) (at a.originals.now a.p) = by₂ eq_z c.is_still.ensures (is (fits-in w32 (c.requires.coordinates.1 c.args.p) tt tt)) (is (fits-in w32 (c.requires.coordinates.0 c.args.p) tt tt)) in
    let a = c.args in
    refit-lone a.originals.now a.currents.now a.touched.now a.s a.e a.p alone _ (sym still ∙ c.if-is_still.false) c.refit_arc.ensures

pub prior_around-prior-requires : goal.prior_around-prior-requires
prior_around-prior-requires c = let w = c.requires.s_le_p in
    (w.0, w.1, omega (arith, w.2, c.requires.currents_len.1), w.3)

pub refit_arc-requires-2 : goal.refit_arc-requires-2
refit_arc-requires-2 c = let a = c.args in
    let w = c.requires.s_le_p in
    let x = c.requires.coordinates in
    let r = c.next_around-next.ensures in
    record {
      currents_len = (c.requires.currents_len.0, w.2);
      s_le_a = (w.0, w.1, r.to_low, r.to_high);
      coordinates = (
        x.0,
        x.1 a.p,
        x.1 c.next_around-next.result,
        arc-gentle a.touched.now a.s a.e a.p
            c.next_around-next.result r a.originals.now a.currents.now x.2,
      );
    }

pub refit_arc-requires-3 : goal.refit_arc-requires-3
refit_arc-requires-3 c = let a = c.args in
    let w = c.requires.s_le_p in
    let x = c.requires.coordinates in
    let r = c.next_around-next.ensures in
    let y = c.prior_around-prior.ensures in
    let v = c.refit_arc-2.ensures in
    let p = a.p in
    let l = c.prior_around-prior.result in
    let kp = arc-kept _ a.touched.now a.s a.e p c.next_around-next.result a.currents.now _ r v p w.3 in
    let kl = arc-kept _ a.touched.now a.s a.e p c.next_around-next.result a.currents.now _ r v l y.from_mark in
    record {
      currents_len = (v.len ∙ c.requires.currents_len.0, w.2);
      s_le_a = (y.from_low, y.from_high, w.0, w.1);
      coordinates = (
        x.0,
        rw kl (x.1 l),
        rw kp (x.1 p),
        λ i u. steep-reads a.originals.now a.currents.now _ i (refs l p) kl kp
            ∙ arc-gentle a.touched.now a.s a.e l p y a.originals.now a.currents.now x.2 i u,
      );
    }

pub shape_of-currents : goal.shape_of-currents
shape_of-currents c = c.refit_arc-3.ensures.len ∙ c.refit_arc-2.ensures.len

pub returns : goal.returns
returns c = let a = c.args in
    refit-two a.originals.now a.currents.now a.touched.now a.s a.e a.p c.next_around-next.result c.prior_around-prior.result
    c.next_around-next.ensures c.if-next-p.false
    c.prior_around-prior.ensures _ _ c.refit_arc-2.ensures c.refit_arc-3.ensures
