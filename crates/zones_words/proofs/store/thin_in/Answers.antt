-- `zones_words::store::thin_in` meets its contract.
use Rattle.zones_words.proofs.Stores.{thin-law, thin-none}
use borrow.Author.Rules.{rules}
use Rattle.zones_words.proofs.store.thin_in.Goals as goal

pub returns-then-skipped : goal.returns-then-skipped
returns-then-skipped c =
    let b = c in
    let a = b in
    let f = a in
    let t = f in
    let s = t in
    thin-law s.args.words.now _ _ s.args.i s.args.skipped f.read_flags-flags.result s.requires.0 s.requires.1 t.if-skipped.true
    f.read_flags-flags.ensures a.put_flags.ensures
    b.put_no_zone.ensures

pub returns-else-skipped : goal.returns-else-skipped
returns-else-skipped c = let s = c in thin-none s.args.words.now s.args.i s.args.skipped s.requires.0 c.if-skipped.false
