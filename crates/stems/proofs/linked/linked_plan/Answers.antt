-- `stems::linked::linked_plan` meets its contract.
use Rattle.stems.proofs.Ranges.{linked-range, place_read}
use borrow.Author.Rules.{rules}
use Rattle.stems.proofs.linked.linked_plan.Goals as goal

pub returns : goal.returns
returns c =
    let l = c in
    let s = l in
    rw (
      l.linked_edge-placed.ensures,
      place_read _
          (linked-range s.args.mode.rule s.args.standards.now s.args.edge2 s.args.edge s.requires.in_reach.1 s.requires.in_reach.0),
    )
