-- `link_words::pair::major_in` meets its contract.
use borrow.Author.Tests.{not-true, not-false}
use mathlib.Core.Path.{◌∙◌}
use mir.Syntax.{w32}
use Rattle.signed.proofs.Signed.{is, got}
use Rattle.link_words.proofs.Pairs.{major-none, alike_self, major-dir, major-law}
use borrow.Author.Rules.{rules}
use Rattle.link_words.proofs.pair.major_in.Goals as goal

pub returns-then-not-is_directed : goal.returns-then-not-is_directed
returns-then-not-is_directed c =
    let p = c in
    let d = p in
    let s = d in
    major-none s.args.major_dir s.args.thresholds s.args.words.now s.args.ix1 s.requires.0 _ _ p.is_directed.ensures
    (is (got w32 d.direction_word.result d.direction_word.type_inv) ∙ d.direction_word.ensures) (c.if-not-is_directed.true)

pub pairs_in-requires : goal.pairs_in-requires
pairs_in-requires c =
    let g = c in
    let x = g in
    let p = x in
    let d = p in
    let s = d in
    let word = is (got w32 d.direction_word.result d.direction_word.type_inv) ∙ d.direction_word.ensures in
    let h = x.if-not-is_directed.false in
    record {
      linkable = (s.requires.0, s.requires.1);
      pos_bound = (
        s.requires.2,
        alike_self s.args.major_dir s.args.thresholds s.args.words.now s.args.ix1 s.requires.0 _ _ p.is_directed.ensures word h _
            g.read_segment-before.ensures,
        major-dir s.args.major_dir s.args.thresholds s.args.words.now s.args.ix1 s.requires.0 _ _ p.is_directed.ensures word h _
            g.read_segment-before.ensures,
      );
    }

pub returns : goal.returns
returns c =
    let r = c in
    let g = r in
    let x = g in
    let p = x in
    let d = p in
    let s = d in
    major-law s.args.major_dir s.args.thresholds s.args.words.now s.args.ix1 s.requires.0 _ _ p.is_directed.ensures
    (is (got w32 d.direction_word.result d.direction_word.type_inv) ∙ d.direction_word.ensures) (x.if-not-is_directed.false) _ g.read_segment-before.ensures
    r.pairs_in.ensures
