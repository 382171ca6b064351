-- `link_words::serif::hold_in` meets its contract.
use Rattle.std.specs.Prelude.{Some}
use borrow.Author.Tests.{not-true, not-false}
use mathlib.Core.Path.{sym, subst}
use native.Mathlib.Omega.{arith}
use Rattle.signed.specs.Range.{Between}
use Rattle.axis.specs.declared.segment.Segment.{Segment}
use Rattle.axis.specs.Limits.{most_score}
use Rattle.link_words.proofs.Turns.{each_within}
use Rattle.link_words.proofs.Serifs.{link-read, link-leads, hold-behind, hold-none, hold-skip, hold-serifs, hold-last}
use Rattle.words_segment.proofs.Became.{below_in}
use borrow.Author.Rules.{rules}
use Rattle.link_words.proofs.serif.hold_in.Goals as goal

pub returns-then-not-starts_outside : goal.returns-then-not-starts_outside
returns-then-not-starts_outside c =
    let o = c in
    let e = o in
    let s = e in
    hold-behind s.args.seg1 s.args.link1 s.args.ix1 s.args.link1_ix s.args.ix2 s.args.words.now s.requires.linkable.0 s.requires.linkable.1
    s.requires.linkable.2 _ e.read_segment-seg2.ensures
    _ o.starts_outside.ensures (c.if-not-starts_outside.true)

pub returns-in_default : goal.returns-in_default
returns-in_default c =
    let e = c in
    let s = e in
    hold-none s.args.seg1 s.args.link1 s.args.ix1 s.args.link1_ix s.args.ix2 s.args.words.now s.requires.linkable.0 s.requires.linkable.1
    s.requires.linkable.2 _ e.read_segment-seg2.ensures
    c.in_default.is

pub read_segment-link2-requires : goal.read_segment-link2-requires
read_segment-link2-requires c =
    let link = c in
    let e = link in
    let s = e in (
      s.requires.linkable.0.whole,
      link-leads s.requires.linkable.0 s.requires.linkable.3
          (link-read s.args.words.now s.args.ix2 e.read_segment-seg2.ensures link.in-Some.is),
    )

pub returns-then-not-encloses : goal.returns-then-not-encloses
returns-then-not-encloses c =
    let k = c in
    let f = k in
    let link = f in
    let e = link in
    let s = e in
    hold-skip s.args.seg1 s.args.link1 s.args.ix1 s.args.link1_ix s.args.ix2 s.args.words.now s.requires.linkable.0 s.requires.linkable.1
    s.requires.linkable.2 _ e.read_segment-seg2.ensures _
    link.in-Some.is _ f.read_segment-link2.ensures _ k.encloses.ensures (c.if-not-encloses.true)

pub is_much_longer-requires : goal.is_much_longer-requires
is_much_longer-requires c =
    let k = c in
    let f = k in
    let link = f in
    let e = link in
    let s = e in
    subst (λ (x : Segment). Between 0 most_score x.len) (sym e.read_segment-seg2.ensures)
    ((each_within s.args.words.now s.requires.linkable.0.within).each s.args.ix2 s.requires.linkable.3).len

pub overflow_cast-ix2-then-is_much_longer : goal.overflow_cast-ix2-then-is_much_longer
overflow_cast-ix2-then-is_much_longer c =
    let s = c in
    omega (arith, s.requires.linkable.3, s.requires.linkable.0.whole.few)

pub rewrite_links_in-requires : goal.rewrite_links_in-requires
rewrite_links_in-requires c = let s = c in (s.requires.linkable.0.whole, s.requires.linkable.2, s.requires.linkable.1)

pub returns-then-is_much_longer : goal.returns-then-is_much_longer
returns-then-is_much_longer c =
    let p = c in
    let y = p in
    let n = y in
    let x = n in
    let k = x in
    let f = k in
    let link = f in
    let e = link in
    let s = e in
    hold-serifs s.args.seg1 s.args.link1 s.args.ix1 s.args.link1_ix s.args.ix2 s.args.words.now s.requires.linkable.0 s.requires.linkable.1
    s.requires.linkable.2 _ e.read_segment-seg2.ensures _
    link.in-Some.is _ f.read_segment-link2.ensures _ k.encloses.ensures (x.if-not-encloses.false) _ n.is_much_longer.ensures
    y.if-is_much_longer.true p.rewrite_links_in.ensures

pub put_no_link-requires : goal.put_no_link-requires
put_no_link-requires c = let s = c in (s.requires.linkable.0.whole, s.requires.linkable.1)

pub put_no_link-requires-2 : goal.put_no_link-requires-2
put_no_link-requires-2 c =
    let p = c in
    let s = p in
    (p.put_no_link.ensures.whole, below_in s.args.link1_ix p.put_no_link.ensures s.requires.linkable.2)

pub returns : goal.returns
returns c =
    let q = c in
    let p = q in
    let y = p in
    let n = y in
    let x = n in
    let k = x in
    let f = k in
    let link = f in
    let e = link in
    let s = e in
    hold-last s.args.seg1 s.args.link1 s.args.ix1 s.args.link1_ix s.args.ix2 s.args.words.now s.requires.linkable.0 s.requires.linkable.1
    s.requires.linkable.2 _ e.read_segment-seg2.ensures _
    link.in-Some.is _ f.read_segment-link2.ensures _ k.encloses.ensures (x.if-not-encloses.false) _ n.is_much_longer.ensures y.if-is_much_longer.false
    p.put_no_link.ensures
    q.put_no_link-2.ensures
