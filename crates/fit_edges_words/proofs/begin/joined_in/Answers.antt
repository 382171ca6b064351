-- `fit_edges_words::begin::joined_in` meets its contract.
use Rattle.fit_edges_words.proofs.Joining.{blues-ready, stems-ready, joined_is}
use borrow.Author.Rules.{rules}
use Rattle.fit_edges_words.proofs.begin.joined_in.Goals as goal

pub where_zoned_in-start-requires : goal.where_zoned_in-start-requires
where_zoned_in-start-requires c =
    let r = blues-ready c.args.by c.args.standards.now c.requires in
    record { standards_value = r.0; whole = r.1 }

pub stems_in-requires : goal.stems_in-requires
stems_in-requires c =
    let r = stems-ready c.args.by c.args.standards.now c.requires c.where_zoned_in-start.ensures in
    record { standards_value = r.0; whole = r.1 }

pub returns : goal.returns
returns c =
    joined_is c.args.by c.args.standards.now c.requires c.where_zoned_in-start.ensures c.stems_in.ensures
