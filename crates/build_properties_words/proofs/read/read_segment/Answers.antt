-- `build_properties_words::read::read_segment` meets its contract.
use Rattle.std.specs.Prelude.{None}
use mathlib.Core.Path.{ap, ◌∙◌}
use lib.IntN.{pos}
use mir.Syntax.{w16, w32}
use Rattle.axis.specs.declared.kinds.Direction.TheVariants as Directions
use Rattle.axis.specs.Flags.{normal}
use Rattle.words.specs.Field.{link_of}
use Rattle.words.specs.Segment.{segment_from}
use Rattle.words.proofs.Fields.{kept}
use borrow.Author.Rules.{rules}
use Rattle.build_properties_words.proofs.read.read_segment.Goals as goal

pub returns : goal.returns
unfolding segment_from
returns c =
    let e = c in
    let serif = e in
    let w3 = serif in
    let link = w3 in
    let w2 = link in
    let place = w2 in
    λ n. record {
      flags = normal;
      dir = Directions.None;
      pos = (kept w16 place.short_in.result place.short_in.type_inv ∙ place.short_in.ensures) n;
      delta = pos 0;
      min_coord = pos 0;
      max_coord = pos 0;
      height = pos 0;
      score = pos 0;
      len = pos 0;
      link = (link.link_of.ensures ∙ ap link_of (kept w32 w2.read_word.result w2.read_word.type_inv ∙ w2.read_word.ensures)) n;
      serif = (serif.link_of-2.ensures ∙ ap link_of (kept w32 w3.read_word-2.result w3.read_word-2.type_inv ∙ w3.read_word-2.ensures)) n;
      first = 0;
      last = 0;
      edge = (c.link_of-3.ensures ∙ ap link_of (kept w32 e.read_word-3.result e.read_word-3.type_inv ∙ e.read_word-3.ensures)) n;
      next = None;
    }
