-- `words_segment_test::read::segment_from` meets its contract.
use mathlib.Core.Path.{◌∙◌}
use mir.Syntax.{w16, w32}
use borrow.Author.Rules.{rules}
use Rattle.words.specs.Segment.{segment_from}
use Rattle.words.proofs.Fields.{kept}
use Rattle.words_segment_test.proofs.read.segment_from.Goals as goal

pub returns : goal.returns
unfolding segment_from
returns c =
    let edge = c in
    let last = edge in
    let first = last in
    let serif = first in
    let link = serif in
    let len = link in
    let score = len in
    let height = score in
    let max = height in
    let min = max in
    let delta = min in
    let pos = delta in
    let dir = pos in
    let flags = dir in
    λ i. record {
      flags = flags.flags_at.ensures i;
      dir = dir.direction_at.ensures i;
      pos = (kept w16 pos.short_at.result pos.short_at.type_inv ∙ pos.short_at.ensures) i;
      delta = (kept w16 delta.short_at-2.result delta.short_at-2.type_inv ∙ delta.short_at-2.ensures) i;
      min_coord = (kept w16 min.short_at-3.result min.short_at-3.type_inv ∙ min.short_at-3.ensures) i;
      max_coord = (kept w16 max.short_at-4.result max.short_at-4.type_inv ∙ max.short_at-4.ensures) i;
      height = (kept w16 height.short_at-5.result height.short_at-5.type_inv ∙ height.short_at-5.ensures) i;
      score = (kept w32 score.word_at.result score.word_at.type_inv ∙ score.word_at.ensures) i;
      len = (kept w32 len.word_at-2.result len.word_at-2.type_inv ∙ len.word_at-2.ensures) i;
      link = link.link_at.ensures i;
      serif = serif.link_at-2.ensures i;
      first = first.index_at.ensures i;
      last = last.index_at-2.ensures i;
      edge = edge.link_at-3.ensures i;
      next = c.link_at-4.ensures i;
    }
