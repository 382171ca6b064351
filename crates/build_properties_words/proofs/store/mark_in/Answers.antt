-- `build_properties_words::store::mark_in` meets its contract.
use Rattle.build_properties_words.proofs.Stores.{mark-law}
use borrow.Author.Rules.{rules}
use Rattle.build_properties_words.proofs.store.mark_in.Goals as goal

pub returns : goal.returns
returns c =
    let put = c in
    let flags = put in
    let s = flags in
    mark-law s.args.edges.now s.args.k s.requires.0 s.requires.1 flags.read_flags-flags.ensures put.put_flags.ensures
