-- `place_words::adjust::adjust_in` meets its contract.
use Rattle.std.specs.Prelude.{Some}
use mathlib.Core.Path.{ap, ◌∙◌}
use mir.Syntax.{w32}
use Rattle.axis.specs.declared.edge.Edge.{Edge}
use Rattle.signed.proofs.Signed.{is, got}
use Rattle.place_words.proofs.Adjusting.{adjust-stays, adjust-law}
use borrow.Author.Rules.{rules}
use Rattle.place_words.proofs.adjust.adjust_in.Goals as goal

pub returns-in_default : goal.returns-in_default
returns-in_default c = adjust-stays c.args.words.now c.args.edge c.args.dir c.requires.0 c.bound_of-bound.ensures c.in_default.is

pub read_edge-to-requires : goal.read_edge-to-requires
read_edge-to-requires c = (c.requires.0, c.bound_of-bound.ensures.below.at _ c.in-Some.is)

pub returns : goal.returns
returns c = adjust-law c.args.words.now c.args.edge c.args.dir _ c.bound_of-bound.ensures c.in-Some.is
    (is (got w32 _ c.struct_told-1.given.1.1.0.1) ∙ ap (λ (e : Edge). e.pos) c.read_edge-to.ensures) c.put_pos.ensures
