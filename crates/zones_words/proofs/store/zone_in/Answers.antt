-- `zones_words::store::zone_in` meets its contract.
use mathlib.Core.Path.{ap}
use Rattle.signed.proofs.Signed.{is}
use Rattle.axis.specs.declared.edge.Edge.{Edge}
use Rattle.zones_words.proofs.Stores.{zone-law}
use borrow.Author.Rules.{rules}
use Rattle.zones_words.proofs.store.zone_in.Goals as goal

pub returns : goal.returns
returns c =
    let f = c in
    let z = f in
    let m = z in
    let e = m in
    let s = e in
    zone-law s.args.words.now _ s.args.anchor s.args.i s.args.fitted s.requires.0 s.requires.1 e.read_edge-edge.ensures m.read_mark-mark.ensures
    (ap (λ (x : Edge). x.mark) z.put_on_zone-zoned.ensures) (is s.ranges.fitted) f.put_fixed.ensures
