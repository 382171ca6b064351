-- `fixed::width::nearest_place` meets its contract. The invariant: `best` is the place of the nearest of the first `i` standards.
use native.Mathlib.Omega.{arith}
use mathlib.Core.Path.{◌≡◌, sym, ap, subst, ◌∙◌}
use Prim.Native.Nat.{◌+◌}
use lib.ListN.{get_or}
use lib.IntN.{ℤ, pos}
use mir.Syntax.{w32}
use Rattle.signed.proofs.Signed.{is, got}
use Rattle.fixed.specs.Width.{away}
use Rattle.fixed.proofs.Widths.{NearestOf, nearest-first, nearest-new, nearest-old, nearest-all}
use Rattle.fixed.proofs.width.nearest_place.Goals as goal
use Rattle.fixed.proofs.width.nearest_place.Goals.{then-new-old, else-new-old}

pub loop-i-init : goal.loop-i-init
loop-i-init c = (omega arith, nearest-first c.args.standards.now c.args.width)

pub loop-i-preserved : goal.loop-i-preserved
loop-i-preserved c =
    let l = c.loop-i in
    let xs = c.args.standards.now in
    let m = c.args.width in
    let n : c.distance-new.result ≡ away m (get_or xs l.i (pos 0)) =
    c.distance-new.ensures ∙ ap (λ (z : ℤ). away m z) (is (got w32 (get_or xs l.i (pos 0)) c.distance-arg-1.given)) in
    let o : c.distance-old.result ≡ away m (get_or xs l.best (pos 0)) =
    c.distance-old.ensures ∙ ap (λ (z : ℤ). away m z) (is (got w32 (get_or xs l.best (pos 0)) c.distance-arg-in-loop-i-1.given)) in (
      omega arith,
      elim c.if-new-old.branch [
        | then-new-old w ↦ subst (NearestOf (l.i + 1) xs m) (sym w.best-is)
            (nearest-new l.i xs m l.best l.invariant.1 (omega arith))
        | else-new-old w ↦ subst (NearestOf (l.i + 1) xs m) (sym w.best-is)
            (nearest-old l.i xs m l.best c.requires.standards (omega arith) l.invariant.1 (omega arith))
      ],
    )

pub returns : goal.returns
returns c =
    let l = c.loop-i in
    let a = c.args in
    (omega arith, nearest-all a.standards.now a.width l.i l.best (omega arith) (omega arith) l.invariant.1)
