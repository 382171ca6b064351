-- `link_words::serif::near_in` meets its contract.
use Rattle.std.specs.Prelude.{Some}
use borrow.Author.Tests.{not-true, not-false}
use mathlib.Core.Path.{sym, subst}
use Rattle.signed.specs.Range.{Between}
use Rattle.axis.specs.declared.segment.Segment.{Segment}
use Rattle.axis.specs.Limits.{most_score}
use Rattle.link_words.proofs.Turns.{each_within}
use Rattle.link_words.proofs.Serifs.{link-read, link-leads, near_none, near-skip, near-law}
use borrow.Author.Rules.{rules}
use Rattle.link_words.proofs.serif.near_in.Goals as goal

pub returns-in_default : goal.returns-in_default
returns-in_default c =
    let e = c in
    let s = e in
    near_none s.args.thresholds s.args.words.now s.args.ix1 s.requires.0.whole _ e.read_segment-seg1.ensures c.in_default.is

pub read_segment-link1-requires : goal.read_segment-link1-requires
read_segment-link1-requires c =
    let link = c in
    let e = link in
    let s = e in
    (s.requires.0.whole, link-leads s.requires.0 s.requires.1 (link-read s.args.words.now s.args.ix1 e.read_segment-seg1.ensures link.in-Some.is))

pub returns-then-not-is_near_stem : goal.returns-then-not-is_near_stem
returns-then-not-is_near_stem c =
    let k = c in
    let f = k in
    let link = f in
    let e = link in
    let s = e in
    near-skip s.args.thresholds s.args.words.now s.args.ix1 s.requires.0.whole _ e.read_segment-seg1.ensures _ link.in-Some.is _
    f.read_segment-link1.ensures _ k.is_near_stem.ensures
    (c.if-not-is_near_stem.true)

pub holds_in-requires : goal.holds_in-requires
holds_in-requires c =
    let k = c in
    let f = k in
    let link = f in
    let e = link in
    let s = e in (
      s.requires.0,
      s.requires.1,
      link-leads s.requires.0 s.requires.1 (link-read s.args.words.now s.args.ix1 e.read_segment-seg1.ensures link.in-Some.is),
      subst (λ (x : Segment). Between 0 most_score x.score) (sym e.read_segment-seg1.ensures)
          ((each_within s.args.words.now s.requires.0.within).each s.args.ix1 s.requires.1).score,
    )

pub returns : goal.returns
returns c =
    let p = c in
    let x = p in
    let k = x in
    let f = k in
    let link = f in
    let e = link in
    let s = e in
    near-law s.args.thresholds s.args.words.now s.args.ix1 s.requires.0.whole _ e.read_segment-seg1.ensures _ link.in-Some.is _
    f.read_segment-link1.ensures _ k.is_near_stem.ensures
    (x.if-not-is_near_stem.false) p.holds_in.ensures
