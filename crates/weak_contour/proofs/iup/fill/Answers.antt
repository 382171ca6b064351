-- `weak_contour::iup::fill` meets its contract. The invariant: the points passed are placed.
use native.Mathlib.Omega.{arith}
use mathlib.Core.Path.{◌≡◌, sym, ap, subst, ◌∙◌}
use mathlib.Core.Bool.{false}
use lib.IntN.{ℤ}
use mir.Syntax.{w32}
use mir.Val.{SFits}
use Rattle.signed.specs.Range.{Between}
use Rattle.signed.proofs.Signed.{is, got, fits-in}
use Rattle.weak_contour.specs.Limits.{most_coordinate}
use Rattle.weak_contour.specs.Contour.{at, interpolated, steep_between}
use Rattle.weak_contour.specs.Steps.{spanned_at}
use Rattle.weak_contour.proofs.Writing.{wrote-more}
use Rattle.weak_contour.proofs.iup.fill.Goals as goal

pub place-u-requires : goal.place-u-requires
place-u-requires c =
    let original : ℤ = at c.args.originals.now c.loop-i.i in
    let whole : SFits w32 original = fits-in w32 (c.requires.coordinates.0 c.loop-i.i) tt tt in
    let p = c.requires.coordinates in
    let l = c.loop-i in
    let s = c.args.span in
    let e : steep_between original s.v1 s.u1 s.v2 s.u2 ≡ false = p.2 l.i (omega arith) (omega arith) in
    record {
      coordinate = subst (Between most_coordinate most_coordinate) (sym (is whole)) (p.0 l.i);
      span_holds = (p.1, ap (λ (z : ℤ). steep_between z s.v1 s.u1 s.v2 s.u2) (is whole) ∙ e);
    }

pub loop-i-preserved : goal.loop-i-preserved
unfolding spanned_at
loop-i-preserved c =
    let whole : SFits w32 (at c.args.originals.now c.loop-i.i) = fits-in w32 (c.requires.coordinates.0 c.loop-i.i) tt tt in
    let l = c.loop-i in
    let s = c.args.span in
    let e = is (got w32 c.place-u.result c.place-u.type_inv) ∙ c.place-u.ensures
    ∙ ap (λ (z : ℤ). interpolated z s.v1 s.u1 s.v2 s.u2) (is whole) in
    wrote-more _ _ _ _ _ _ (omega arith) (omega arith) l.invariant e

pub returns : goal.returns
returns c = let e : c.loop-i.i ≡ c.args.to = omega arith in
    rw e at c.loop-i.invariant
