-- `zones_words::store::stem_in` meets its contract.
use native.Mathlib.Omega.{arith}
use mir.Syntax.{w32}
use Rattle.signed.proofs.Signed.{is, got}
use Rattle.place.specs.Steps.{most_reach}
use Rattle.place_words.proofs.Places.{read-reach, edge-reach}
use Rattle.zones_words.proofs.Stores.{stem-zoned, stem-law}
use borrow.Author.Rules.{rules}
use Rattle.zones_words.proofs.store.stem_in.Goals as goal

pub returns-then-has_blue : goal.returns-then-has_blue
returns-then-has_blue c =
    let b = c in
    let e = b in
    let s = e in
    stem-zoned s.args.rule s.args.standards.now s.args.words.now s.args.one s.args.two e.read_edge-stem.ensures b.has_blue.ensures
    s.requires.whole.0 c.if-has_blue.true

pub linked_edge-moved-requires : goal.linked_edge-moved-requires
linked_edge-moved-requires c =
    let e = c in
    let s = e in
    let p = s.requires.whole in
    let ws = s.args.words.now in
    record {
      standards_value = s.requires.standards_value;
      in_reach = (
        read-reach c.read_edge-base.result c.read_edge-base.ensures (edge-reach ws most_reach s.args.one (omega arith) p.3 p.1),
        read-reach e.read_edge-stem.result e.read_edge-stem.ensures (edge-reach ws most_reach s.args.two (omega arith) p.3 p.2),
      );
    }

pub returns : goal.returns
returns c =
    let f = c in
    let told = f in
    let m = told in
    let g = m in
    let x = g in
    let b = x in
    let e = b in
    let s = e in
    stem-law s.args.rule s.args.standards.now s.args.words.now s.args.one s.args.two e.read_edge-stem.ensures b.has_blue.ensures
    x.if-has_blue.false g.read_edge-base.ensures
    m.linked_edge-moved.ensures (is (got w32 _ told.struct_told-1.given.1.1.0.1)) f.put_fixed.ensures
