-- `link_words::pair::improve_in` meets its contract.
use borrow.Author.Tests.{not-true, not-false}
use mathlib.Core.Path.{sym, subst}
use mir.Syntax.{w32}
use Rattle.signed.specs.Range.{Between}
use Rattle.signed.proofs.Signed.{is, got}
use Rattle.axis.specs.declared.segment.Segment.{Segment}
use Rattle.axis.specs.Limits.{most_score}
use Rattle.link_words.proofs.Pairs.{improve-none, improve-law}
use borrow.Author.Rules.{rules}
use Rattle.link_words.proofs.pair.improve_in.Goals as goal

pub check_seg-requires : goal.check_seg-requires
check_seg-requires c =
    let s = c in
    record {
      between = subst (λ (x : Segment). Between 0 most_score x.score) (sym c.read_segment-seg.ensures) s.requires.between.0;
      between_2 = s.requires.between.1;
    }

pub returns-then-not-check_seg : goal.returns-then-not-check_seg
returns-then-not-check_seg c =
    let k = c in
    let e = k in
    let s = e in
    improve-none s.args.words.now s.args.i s.args.gap s.args.ix s.requires.whole.0 _ _ e.read_segment-seg.ensures k.check_seg.ensures
    (c.if-not-check_seg.true)

pub returns : goal.returns
returns c =
    let p = c in
    let t = p in
    let x = t in
    let k = x in
    let e = k in
    let s = e in
    improve-law s.args.words.now s.args.i s.args.gap s.args.ix s.requires.whole.0 _ _ e.read_segment-seg.ensures k.check_seg.ensures
    (x.if-not-check_seg.false)
    (is (got w32 _ t.struct_told-1.given.0.1)) (is (got w32 _ t.struct_told-2-1.given.1.0.1)) p.put_stem.ensures
