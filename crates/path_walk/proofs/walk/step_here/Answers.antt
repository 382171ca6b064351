-- `path_walk::walk::step_here` meets its contract.
use mathlib.Core.Path.{sym, ap, ◌∙◌}
use Prim.Native.Nat.{ℕ}
use lib.Dec.{ltb}
use lib.ListN.{get_or}
use Rattle.path_trip.specs.Path.{points, Points, place}
use Rattle.path_walk.proofs.Seeks.{step_line, step-curve}
use Rattle.path_walk.proofs.walk.step_here.Goals as goal

pub returns-then-is_on : goal.returns-then-is_on
returns-then-is_on c =
    let outline : Points = points c.args.xs.now c.args.ys.now c.args.marks.now in
    let p = c.around_at-i.ensures.0 in
    let q = ap (λ (k : ℕ). ltb 0 (get_or c.args.marks.now k 0)) (sym p) ∙ sym c.is_on.ensures ∙ c.if-is_on.true in
    step_line outline _ _ _ _ q (c.place_of-p.ensures ∙ ap (place outline) p)

pub returns : goal.returns
returns c =
    let outline : Points = points c.args.xs.now c.args.ys.now c.args.marks.now in
    let p = c.around_at-i.ensures.0 in
    let q = ap (λ (k : ℕ). ltb 0 (get_or c.args.marks.now k 0)) (sym p) ∙ sym c.is_on.ensures ∙ c.if-is_on.false in
    step-curve outline _ _ _ _ _ q (c.place_of-p.ensures ∙ ap (place outline) p) c.curve_end-q.ensures
