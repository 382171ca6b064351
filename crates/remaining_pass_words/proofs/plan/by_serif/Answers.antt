-- `remaining_pass_words::plan::by_serif` meets its contract.
use mathlib.Core.Path.{◌∙◌}
use Rattle.remaining.specs.Plan.{serif_plan}
use Rattle.remaining_pass_words.proofs.Reading.{reach}
use Rattle.remaining_pass_words.proofs.plan.by_serif.Goals as goal

pub read_edge-base-requires : goal.read_edge-base-requires
read_edge-base-requires c = (c.requires.0.whole, c.requires.1)

pub read_edge-requires : goal.read_edge-requires
read_edge-requires c = (c.requires.0.whole, c.requires.0.below)

pub serif_plan-requires : goal.serif_plan-requires
serif_plan-requires c =
    let ws = c.args.words.now in
    let r = c.requires.0 in
    (reach ws c.args.k r.axis c.requires.1 c.read_edge-base.ensures, reach ws c.args.i r.axis r.below c.read_edge.ensures)

pub returns : goal.returns
returns c =
    c.serif_plan.ensures ∙ λ j. serif_plan (c.read_edge-base.ensures j) (c.read_edge.ensures j) c.args.way c.args.past
