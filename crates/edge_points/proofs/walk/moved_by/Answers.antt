-- `edge_points::walk::moved_by` meets its contract.
use native.Mathlib.Omega.{arith}
use mathlib.Core.Path.{◌∙◌}
use lib.IntN.{◌+ℤ◌, ◌-ℤ◌}
use mir.Syntax.{w32}
use mir.Val.{SFits}
use Rattle.signed.proofs.Signed.{signed, fits, is, fits-in, ◌also◌}
use Rattle.signed.proofs.By.{by₂}
use Rattle.edge_points.proofs.Moves.{snapped, shifted}
use Rattle.edge_points.proofs.walk.moved_by.Goals as goal
use Rattle.edge_points.proofs.walk.moved_by.Goals.{Start}

-- both positions fit
pos-fits : (s : Start) → SFits w32 s.args.edge.pos
pos-fits s = fits-in w32 s.requires.0.pos tt tt

opos-fits : (s : Start) → SFits w32 s.args.edge.opos
opos-fits s = fits-in w32 s.requires.0.opos tt tt

pub returns-then-snap : goal.returns-then-snap
returns-then-snap c =
    let s = c.before.before in
    is (pos-fits s) ∙ snapped s.args.snap s.args.edge s.args.current c.if-snap.true

pub overflow_sub-result : goal.overflow_sub-result
overflow_sub-result c =
    let s = c.before.before.before in
    let k = pos-fits s also opos-fits s in
    fits (omega (arith, signed, s.requires.0.pos, s.requires.0.opos))

pub overflow_add-result : goal.overflow_add-result
overflow_add-result c =
    let s = c.before.before.before in
    let k = pos-fits s also opos-fits s also overflow_sub-result c in
    fits (omega (arith, signed, s.requires.0.pos, s.requires.0.opos, s.requires.1))

pub returns : goal.returns
returns c =
    let e = c.before.before in
    let s = e.before in
    by₂ ◌+ℤ◌ (is (overflow_add-result c)) (is s.ranges.current) (by₂ ◌-ℤ◌ (is (overflow_sub-result c)) (is (pos-fits s)) (is (opos-fits s)))
    ∙ shifted s.args.snap s.args.edge s.args.current e.if-snap.false
