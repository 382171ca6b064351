-- `build_properties_words::read::read_join` meets its contract.
use mathlib.Core.Path.{sym, subst}
use Rattle.axis.specs.declared.segment.Segment.{Segment}
use Rattle.axis.specs.Accepted.{Below}
use Rattle.words.specs.Segment.{segments_in}
use Rattle.build_properties_words.proofs.Readings.{join-law}
use borrow.Author.Rules.{rules}
use Rattle.build_properties_words.proofs.read.read_join.Goals as goal

pub read_segment-segment-requires : goal.read_segment-segment-requires
read_segment-segment-requires c = (c.requires.0.inside, c.requires.1 _ c.requires.0.inside)

pub read_named-serif-requires : goal.read_named-serif-requires
read_named-serif-requires c =
    let s = c in
    (subst (λ (x : Segment). Below (segments_in s.args.words.now) x.serif) (sym c.read_segment-segment.ensures) s.requires.0.serif, s.requires.1)

pub read_named-link-requires : goal.read_named-link-requires
read_named-link-requires c =
    let segment = c in
    let s = segment in
    (subst (λ (x : Segment). Below (segments_in s.args.words.now) x.link) (sym segment.read_segment-segment.ensures) s.requires.0.link, s.requires.1)

pub returns : goal.returns
returns c =
    let link = c in
    let serif = link in
    let segment = serif in
    let s = segment in
    join-law s.args.words.now s.args.k s.args.ix segment.read_segment-segment.ensures serif.read_named-serif.ensures link.read_named-link.ensures
    c.join_of.ensures
