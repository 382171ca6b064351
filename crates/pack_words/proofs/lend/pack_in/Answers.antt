-- `pack_words::lend::pack_in` meets its contract: step by step.
use borrow.Author.Rules.{rules}
use mathlib.Core.Path.{◌∙◌}
use Rattle.pack.proofs.Calls.{linked}
use Rattle.pack_words.proofs.Lending.{new-numbers, new-places, fewer, ends-hold, packs-both}
use Rattle.pack_words.proofs.lend.pack_in.Goals as goal

pub kept_in-kept-requires : goal.kept_in-kept-requires
kept_in-kept-requires c = (c.requires.0, linked c.requires.2.segments)

pub move_in-requires : goal.move_in-requires
move_in-requires c = (
  c.requires.0,
  c.requires.2.segments,
  c.kept_in-kept.ensures,
  new-numbers c.args.segments.now c.args.edges.now c.requires.0 c.requires.1 c.requires.2 _ _ _ c.kept_in-kept.ensures c.number-numbers.ensures,
)

pub clear_in-requires : goal.clear_in-requires
clear_in-requires c =
    fewer c.args.segments.now c.args.edges.now c.requires.0 c.requires.1 c.requires.2 _ _ _ c.kept_in-kept.ensures c.number-numbers.ensures
    c.move_in.ensures

pub ends_in-requires : goal.ends_in-requires
ends_in-requires c = (
  c.requires.1,
  ends-hold c.args.segments.now c.args.edges.now c.requires.0 c.requires.1 c.requires.2 _ _ _ c.kept_in-kept.ensures c.number-numbers.ensures,
  new-places c.args.segments.now c.args.edges.now c.requires.0 c.requires.1 c.requires.2 _ _ _ c.kept_in-kept.ensures c.number-numbers.ensures,
)

pub shape_of-segments : goal.shape_of-segments
shape_of-segments c = c.clear_in.ensures.long ∙ c.move_in.ensures.long

pub shape_of-edges : goal.shape_of-edges
shape_of-edges c = c.ends_in.ensures.long

pub returns : goal.returns
returns c =
    packs-both c.args.segments.now c.args.edges.now c.requires.0 c.requires.1 c.requires.2 _ _ _ c.kept_in-kept.ensures c.number-numbers.ensures
    c.move_in.ensures c.clear_in.ensures
    c.ends_in.ensures
