-- `words_segment::segment::read_segment` meets its contract.
use Rattle.std.specs.Prelude.{None}
use mathlib.Core.Path.{ap, sym, ◌∙◌}
use native.Mathlib.Omega.{arith}
use lib.IntN.{pos}
use mir.Syntax.{w16, w32}
use Rattle.axis.specs.declared.segment.Segment.{Segment}
use Rattle.axis.specs.Flags.{normal}
use Rattle.words.specs.Segment.{segment_from}
use Rattle.words.proofs.Fields.{kept}
use Rattle.words_segment.proofs.Wholes.{segment-in, room, pos-is, min-is, max-is, pos-short, min-short, max-short, link-small, serif-small}
use borrow.Author.Rules.{rules}
use Rattle.words_segment.proofs.segment.read_segment.Goals as goal

pub read_short-requires : goal.read_short-requires
read_short-requires c =
    let s = c in
    let r = room s.args.words.now s.args.i s.requires.0 s.requires.1 in
    (omega arith, pos-short s.args.words.now s.args.i s.requires.0 s.requires.1)

pub read_short-requires-2 : goal.read_short-requires-2
read_short-requires-2 c =
    let s = c in
    let r = room s.args.words.now s.args.i s.requires.0 s.requires.1 in
    (omega arith, min-short s.args.words.now s.args.i s.requires.0 s.requires.1)

pub read_short-requires-3 : goal.read_short-requires-3
read_short-requires-3 c =
    let s = c in
    let r = room s.args.words.now s.args.i s.requires.0 s.requires.1 in
    (omega arith, max-short s.args.words.now s.args.i s.requires.0 s.requires.1)

pub read_link-requires : goal.read_link-requires
read_link-requires c =
    let s = c in
    let r = room s.args.words.now s.args.i s.requires.0 s.requires.1 in
    (omega arith, link-small s.args.words.now s.args.i s.requires.0 s.requires.1)

pub read_link-requires-2 : goal.read_link-requires-2
read_link-requires-2 c =
    let s = c in
    let r = room s.args.words.now s.args.i s.requires.0 s.requires.1 in
    (omega arith, serif-small s.args.words.now s.args.i s.requires.0 s.requires.1)

pub returns : goal.returns
unfolding segment_from
returns c =
    let link = c in
    let len = link in
    let score = len in
    let high = score in
    let low = high in
    let at = low in
    let dir = at in
    let s = dir in
    let ws = s.args.words.now in
    let i = s.args.i in
    let w = s.requires.0 in
    let h = s.requires.1 in
    let same = segment-in ws i w h in
    (λ n. record {
      flags = normal;
      dir = (dir.direction_at.ensures ∙ ap (λ (x : Segment). x.dir) (sym same)) n;
      pos = (kept w16 at.read_short.result at.read_short.type_inv ∙ at.read_short.ensures ∙ pos-is ws i w h) n;
      delta = pos 0;
      min_coord = (kept w16 low.read_short-2.result low.read_short-2.type_inv ∙ low.read_short-2.ensures ∙ min-is ws i w h) n;
      max_coord = (kept w16 high.read_short-3.result high.read_short-3.type_inv ∙ high.read_short-3.ensures ∙ max-is ws i w h) n;
      height = pos 0;
      score = (kept w32 score.read_word.result score.read_word.type_inv ∙ score.read_word.ensures ∙ ap (λ (x : Segment). x.score) (sym same)) n;
      len = (kept w32 len.read_word-2.result len.read_word-2.type_inv ∙ len.read_word-2.ensures ∙ ap (λ (x : Segment). x.len) (sym same)) n;
      link = (link.read_link.ensures ∙ ap (λ (x : Segment). x.link) (sym same)) n;
      serif = (c.read_link-2.ensures ∙ ap (λ (x : Segment). x.serif) (sym same)) n;
      first = 0;
      last = 0;
      edge = None;
      next = None;
    })
