-- `shown_lines::line::cross_curve` meets its contract. The invariant: the lines from k / 16 on are left to add.
use mathlib.Core.Path.{◌≡◌, ◌∙◌}
use mathlib.Core.List.{◌∷◌, []}
use Prim.Native.Nat.{suc, ◌+◌, ◌-◌}
use native.Mathlib.Omega.{arith}
use Rattle.shown.specs.Shown.{side}
use Rattle.shown_lines.specs.Lines.{place_on, curve_sides}
use Rattle.shown_lines.proofs.Winding.{owing-as, owing-more, owing-done, wound-still}
use Rattle.shown_lines.proofs.Curves.{still-curve, curve-one, curve-none}
use Rattle.shown_lines.proofs.line.cross_curve.Goals as goal

pub returns-then-one_side : goal.returns-then-one_side
returns-then-one_side c = wound-still _ c.args.left c.args.y c.args.changes.now
    (still-curve c.args.p c.args.c c.args.q c.args.y (c.one_side.ensures c.if-one_side.true) 0 16 (omega arith))

pub loop-k-preserved : goal.loop-k-preserved
loop-k-preserved c = let k = c.loop-k.k in
    let n : 16 - k ≡ suc (16 - (k + 1)) = omega (arith, c.loop-k-test.true) in (
      c.place_at-high.ensures.0,
      c.place_at-high.ensures.1,
      owing-more _ (side (place_on c.args.p c.args.c c.args.q k) (place_on c.args.p c.args.c c.args.q (k + 1)) ∷ [])
          (curve_sides c.args.p c.args.c c.args.q (k + 1) (16 - (k + 1))) c.cross_part.ensures
          (owing-as _ _ (curve-one c.args.p c.args.c c.args.q k (16 - k) (16 - (k + 1)) n) c.loop-k.invariant.2),
    )

pub returns : goal.returns
returns c = let n : 16 - c.loop-k.k ≡ 0 = omega (arith, c.loop-k-test.false) in
    owing-done
    (owing-as _ _ ((λ i. curve_sides c.args.p c.args.c c.args.q c.loop-k.k (n i)) ∙ curve-none c.args.p c.args.c c.args.q c.loop-k.k)
    c.loop-k.invariant.2)
