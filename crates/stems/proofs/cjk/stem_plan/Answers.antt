-- `stems::cjk::stem_plan` meets its contract.
use native.Mathlib.Omega.{arith}
use lib.IntN.{ℤ, ◌+ℤ◌}
use mir.Syntax.{w32}
use mir.Val.{SFits, to_z, of_z}
use Rattle.signed.specs.Range.{Between}
use Rattle.signed.proofs.Signed.{fits, fits-in, is, ◌also◌, signed}
use Rattle.place.proofs.Reach.{units-read}
use Rattle.stems_cjk.proofs.Moves.{start-read, width_read}
use Rattle.stems_cjk.specs.Cjk.{most_width, most_cjk_start}
use Rattle.stems.specs.Plan.{stem_plan}
use Rattle.stems.proofs.cjk.stem_plan.Goals as goal

-- the end of a stem fits
upper-fits : {p w : ℤ} → Between most_cjk_start most_cjk_start p → Between most_width most_width w → SFits w32 (to_z w32 (of_z w32 p) +ℤ to_z w32 (of_z w32 w))
upper-fits h g = let k = fits-in w32 h tt tt also fits-in w32 g tt tt in fits (omega (arith, signed))

pub overflow_add-upper : goal.overflow_add-upper
overflow_add-upper c = upper-fits c.requires.between.0 c.requires.between.1

pub returns-then-edge-edge2 : goal.returns-then-edge-edge2
unfolding stem_plan
returns-then-edge-edge2 c = rw (rw (units-read _ c.requires.in_reach.0.opos, units-read _ c.requires.in_reach.1.opos) at c.if-edge-edge2.true)
    (rw (is (upper-fits c.requires.between.0 c.requires.between.1), start-read _ c.requires.between.0, width_read _ c.requires.between.1, is c.ranges.delta) at c.fixed_plan.ensures)

pub returns : goal.returns
unfolding stem_plan
returns c = rw (rw (units-read _ c.requires.in_reach.0.opos, units-read _ c.requires.in_reach.1.opos) at c.if-edge-edge2.false)
    (rw (is (upper-fits c.requires.between.0 c.requires.between.1), start-read _ c.requires.between.0, width_read _ c.requires.between.1, is c.ranges.delta) at c.fixed_plan-2.ensures)
