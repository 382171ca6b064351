-- `link_words::pair::pair_in` meets its contract.
use borrow.Author.Tests.{not-true, not-false}
use mathlib.Core.Path.{sym, subst, ◌∙◌}
use Rattle.signed.specs.Range.{Between}
use Rattle.signed.proofs.Signed.{is}
use Rattle.axis.specs.declared.segment.Segment.{Segment}
use Rattle.axis.specs.Limits.{most_score}
use Rattle.words_segment.proofs.Became.{below_in}
use Rattle.link_words.proofs.Turns.{each_within}
use Rattle.link_words.proofs.Pairs.{pair-apart, pair-none, pair-dist, pair-second, pair-law}
use borrow.Author.Rules.{rules}
use Rattle.link_words.proofs.pair.pair_in.Goals as goal

pub returns-then-not-is_directed : goal.returns-then-not-is_directed
returns-then-not-is_directed c =
    let p = c in
    let s = p in
    pair-apart s.args.thresholds s.args.before s.args.words.now s.args.ix1 s.args.ix2 s.requires.linkable.0 s.requires.pos_bound.1 _ _
    p.is_directed.ensures
    (is s.ranges.other ∙ s.requires.pos_bound.2) (c.if-not-is_directed.true)

pub returns-then-not-is_stem_gap : goal.returns-then-not-is_stem_gap
returns-then-not-is_stem_gap c =
    let k = c in
    let g = k in
    let b = g in
    let y = b in
    let p = y in
    let s = p in
    pair-none s.args.thresholds s.args.before s.args.words.now s.args.ix1 s.args.ix2 s.requires.linkable.0 s.requires.pos_bound.1 _ _
    p.is_directed.ensures
    (is s.ranges.other ∙ s.requires.pos_bound.2) (y.if-not-is_directed.false) _ b.read_segment-seg2.ensures _ g.gap_between-gap.ensures.value _ k.is_stem_gap.ensures
    (c.if-not-is_stem_gap.true)

pub improve_in-requires : goal.improve_in-requires
improve_in-requires c =
    let x = c in
    let k = x in
    let g = k in
    let b = g in
    let y = b in
    let p = y in
    let s = p in
    record {
      whole = (s.requires.linkable.0.whole, s.requires.linkable.1);
      between = (
        ((each_within s.args.words.now s.requires.linkable.0.within).each s.args.ix1 s.requires.linkable.1).score,
        pair-dist s.args.thresholds s.args.before s.args.words.now s.args.ix1 s.args.ix2 s.requires.linkable.0 s.requires.pos_bound.1 _ _
            p.is_directed.ensures
            (is s.ranges.other ∙ s.requires.pos_bound.2) (y.if-not-is_directed.false) _ b.read_segment-seg2.ensures _ g.gap_between-gap.ensures.value _
            k.is_stem_gap.ensures (x.if-not-is_stem_gap.false)
            g.gap_between-gap.ensures.reach,
      );
    }

pub improve_in-requires-2 : goal.improve_in-requires-2
improve_in-requires-2 c =
    let m = c in
    let x = m in
    let k = x in
    let g = k in
    let b = g in
    let y = b in
    let p = y in
    let s = p in
    let one = m.improve_in.ensures in
    let same =
    pair-second s.args.thresholds s.args.before s.args.words.now s.args.ix1 s.args.ix2 s.requires.linkable.0 s.requires.pos_bound.1 _ _
    p.is_directed.ensures
    (is s.ranges.other ∙ s.requires.pos_bound.2) (y.if-not-is_directed.false) _ b.read_segment-seg2.ensures _ g.gap_between-gap.ensures.value _ k.is_stem_gap.ensures
    (x.if-not-is_stem_gap.false)
    g.gap_between-gap.ensures.reach one in
    record {
      whole = (one.whole, below_in s.args.ix2 one s.requires.linkable.2);
      between = (
        subst (λ (z : Segment). Between 0 most_score z.score) (sym same)
            ((each_within s.args.words.now s.requires.linkable.0.within).each s.args.ix2 s.requires.linkable.2).score,
        pair-dist s.args.thresholds s.args.before s.args.words.now s.args.ix1 s.args.ix2 s.requires.linkable.0 s.requires.pos_bound.1 _ _
            p.is_directed.ensures
            (is s.ranges.other ∙ s.requires.pos_bound.2) (y.if-not-is_directed.false) _ b.read_segment-seg2.ensures _ g.gap_between-gap.ensures.value _
            k.is_stem_gap.ensures (x.if-not-is_stem_gap.false)
            g.gap_between-gap.ensures.reach,
      );
    }

pub returns : goal.returns
returns c =
    let n = c in
    let m = n in
    let x = m in
    let k = x in
    let g = k in
    let b = g in
    let y = b in
    let p = y in
    let s = p in
    pair-law s.args.thresholds s.args.before s.args.words.now s.args.ix1 s.args.ix2 s.requires.linkable.0 s.requires.pos_bound.1 _ _
    p.is_directed.ensures
    (is s.ranges.other ∙ s.requires.pos_bound.2) (y.if-not-is_directed.false) _ b.read_segment-seg2.ensures _ g.gap_between-gap.ensures.value _ k.is_stem_gap.ensures
    (x.if-not-is_stem_gap.false)
    g.gap_between-gap.ensures.reach s.requires.linkable.1 s.requires.linkable.2 s.requires.pos_bound.0 m.improve_in.ensures n.improve_in-2.ensures
