-- `zones_words::store::skip_in` meets its contract.
use Rattle.zones_words.proofs.Stores.{skip-law}
use borrow.Author.Rules.{rules}
use Rattle.zones_words.proofs.store.skip_in.Goals as goal

pub returns : goal.returns
returns c =
    let b = c in
    let a = b in
    let o = a in
    let n = o in
    let g = n in
    let e = g in
    let s = e in
    skip-law s.args.words.now _ _ s.args.i s.args.k e.read_edge-edge.ensures g.read_edge-edge2.ensures n.loses_own-own.ensures
    o.loses_link-other.ensures a.thin_in.ensures
    b.thin_in-2.ensures
