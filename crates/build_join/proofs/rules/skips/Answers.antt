-- `build_join::rules::skips` meets its contract: by the loop and the group.
use mathlib.Core.Path.{◌≡◌, refl, ◌∙◌}
use Rattle.axis.proofs.Equal.{other-directions}
use Rattle.axis.specs.Direction.{same}
use Rattle.axis.specs.declared.kinds.Direction.TheVariants as Directions
use Rattle.build_join.proofs.Passing.{skips-directed, skips-none, skips-some}
use Rattle.build_join.proofs.rules.skips.Goals as goal

pub returns-then-second : goal.returns-then-second
returns-then-second c =
    let directed : same c.args.segment.dir Directions.None ≡ same c.args.segment.dir Directions.None = refl in
    rw (c.ne.ensures ∙ other-directions c.args.segment.dir Directions.None) (skips-directed _ _ _ _ c.if-second.true directed)

pub returns-then-rules : goal.returns-then-rules
returns-then-rules c = skips-none _ _ _ c.if-second.false c.if-rules.true

pub returns : goal.returns
returns c = skips-some _ _ _ _ c.if-second.false c.if-rules.false c.is_passed_over.ensures
