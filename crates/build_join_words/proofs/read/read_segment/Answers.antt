-- `build_join_words::read::read_segment` meets its contract.
use Rattle.std.specs.Prelude.{None}
use mathlib.Core.Path.{ap, ◌∙◌}
use lib.IntN.{pos}
use mir.Syntax.{w16, w32}
use Rattle.axis.specs.Flags.{normal}
use Rattle.words.specs.Field.{direction_of, short_of, link_of}
use Rattle.words.specs.Segment.{segment_from}
use Rattle.words.proofs.Fields.{kept}
use borrow.Author.Rules.{rules}
use Rattle.build_join_words.proofs.read.read_segment.Goals as goal

pub returns : goal.returns
unfolding segment_from
returns c =
    let w5 = c in
    let height = w5 in
    let w4 = height in
    let delta = w4 in
    let w3 = delta in
    let place = w3 in
    let w2 = place in
    let dir = w2 in
    let w1 = dir in
    λ n. record {
      flags = normal;
      dir = (dir.direction_of.ensures ∙ ap direction_of (kept w32 w1.read_word.result w1.read_word.type_inv ∙ w1.read_word.ensures)) n;
      pos =
          (kept w16 place.short_of.result place.short_of.type_inv ∙ place.short_of.ensures
          ∙ ap short_of (kept w32 w2.read_word-2.result w2.read_word-2.type_inv ∙ w2.read_word-2.ensures)) n;
      delta =
          (kept w16 delta.short_of-2.result delta.short_of-2.type_inv ∙ delta.short_of-2.ensures
          ∙ ap short_of (kept w32 w3.read_word-3.result w3.read_word-3.type_inv ∙ w3.read_word-3.ensures)) n;
      min_coord = pos 0;
      max_coord = pos 0;
      height = (kept w16 height.short_of-3.result height.short_of-3.type_inv ∙ height.short_of-3.ensures
          ∙ ap short_of (kept w32 w4.read_word-4.result w4.read_word-4.type_inv ∙ w4.read_word-4.ensures)) n;
      score = pos 0;
      len = pos 0;
      link = None;
      serif = (c.link_of.ensures ∙ ap link_of (kept w32 w5.read_word-5.result w5.read_word-5.type_inv ∙ w5.read_word-5.ensures)) n;
      first = 0;
      last = 0;
      edge = None;
      next = None;
    }
