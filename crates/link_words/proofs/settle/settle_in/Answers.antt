-- `link_words::settle::settle_in` meets its contract.
use mathlib.Core.Path.{sym, subst, ◌∙◌}
use Rattle.axis.proofs.Equal.{option-links}
use Rattle.signed.specs.Range.{Between}
use Rattle.axis.specs.declared.segment.Segment.{Segment}
use Rattle.axis.specs.Limits.{most_score}
use Rattle.link_words.proofs.Turns.{each_within}
use Rattle.link_words.proofs.Serifs.{link-read, link-leads}
use Rattle.link_words.proofs.Settled.{settle-none, settle-back, settle-serif, settle-gone, back_below}
use Rattle.link_words.proofs.settle.settle_in.Goals as goal

pub returns-in_default : goal.returns-in_default
returns-in_default c =
    settle-none c.args.thresholds c.args.words.now c.args.ix1 c.requires.0.whole _ c.read_segment-seg1.ensures c.in_default.is

pub read_segment-seg2-requires : goal.read_segment-seg2-requires
read_segment-seg2-requires c =
    (c.requires.0.whole, link-leads c.requires.0 c.requires.1 (link-read c.args.words.now c.args.ix1 c.read_segment-seg1.ensures c.in-Some.is))

pub returns-then-eq : goal.returns-then-eq
returns-then-eq c =
    settle-back c.args.thresholds c.args.words.now c.args.ix1 c.requires.0.whole _ c.read_segment-seg1.ensures _ c.in-Some.is _
    c.read_segment-seg2.ensures _ (c.eq.ensures ∙ option-links _ _)
    c.if-eq.true

pub stays_serif-requires : goal.stays_serif-requires
stays_serif-requires c =
    subst (λ (x : Segment). Between 0 most_score x.score) (sym c.read_segment-seg2.ensures)
    ((each_within c.args.words.now c.requires.0.within).each _
    (link-leads c.requires.0 c.requires.1 (link-read c.args.words.now c.args.ix1 c.read_segment-seg1.ensures c.in-Some.is))).score

pub put_serif-requires : goal.put_serif-requires
put_serif-requires c = (
  c.requires.0.whole,
  c.requires.1,
  back_below c.requires.0 (link-leads c.requires.0 c.requires.1
      (link-read c.args.words.now c.args.ix1 c.read_segment-seg1.ensures c.in-Some.is)) c.read_segment-seg2.ensures,
)

pub returns-then-stays_serif : goal.returns-then-stays_serif
returns-then-stays_serif c =
    settle-serif c.args.thresholds c.args.words.now c.args.ix1 c.requires.0.whole _ c.read_segment-seg1.ensures _ c.in-Some.is _
    c.read_segment-seg2.ensures _ (c.eq.ensures ∙ option-links _ _)
    c.if-eq.false _ c.stays_serif.ensures c.if-stays_serif.true c.put_serif.ensures

pub returns : goal.returns
returns c =
    settle-gone c.args.thresholds c.args.words.now c.args.ix1 c.requires.0.whole _ c.read_segment-seg1.ensures _ c.in-Some.is _
    c.read_segment-seg2.ensures _ (c.eq.ensures ∙ option-links _ _)
    c.if-eq.false _ c.stays_serif.ensures c.if-stays_serif.false c.put_no_link.ensures
