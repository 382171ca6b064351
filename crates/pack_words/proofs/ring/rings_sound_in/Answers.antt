-- `pack_words::ring::rings_sound_in` meets its contract: gathered, counted, followed.
use mathlib.Core.Path.{refl, sym, ◌∙◌}
use Rattle.axis.specs.declared.kinds.Dimension.TheVariants as Dimensions
use Rattle.axis.specs.declared.kinds.Direction.TheVariants as Directions
use Rattle.words.specs.Edge.{axis_run, flat_axis}
use Rattle.words.specs.Segment.{segments_run, flat_segments}
use Rattle.words_call.specs.Lent.{edges_of}
use Rattle.mend_rings_words.proofs.Follows.{followed-told}
use Rattle.words_edge.proofs.Wholes.{edges-len}
use Rattle.pack_words.proofs.Sounding.{none-sound}
use Rattle.pack_words.proofs.ring.rings_sound_in.Goals as goal

pub gather_in-requires : goal.gather_in-requires
gather_in-requires c = (c.requires.0, refl, refl)

pub tally-requires : goal.tally-requires
tally-requires c = (c.requires.0, refl, refl, refl)

pub find_broken-requires : goal.find_broken-requires
find_broken-requires c = (c.requires.0, c.requires.1, refl)

pub none_broken-requires : goal.none_broken-requires
none_broken-requires c = c.requires.1

pub returns : goal.returns
unfolding flat_segments segments_run flat_axis axis_run
returns c =
    let es = c.args.edges.now in
    c.none_broken.ensures
    ∙ none-sound (edges_of es) (flat_segments c.args.segments.now) _ _ (sym (edges-len es))
    (followed-told es Dimensions.Horizontal Directions.None (flat_segments c.args.segments.now) _ _ _ _ _ _ c.requires.0 c.requires.1
    c.gather_in.ensures.gathered c.tally.ensures
    c.find_broken.ensures)
