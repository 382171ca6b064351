-- `place_words::align::linked_in` meets its contract.
use mir.Syntax.{w32}
use Rattle.signed.proofs.Signed.{is, got}
use Rattle.place_words.proofs.Places.{read-reach, linked-law}
use borrow.Author.Rules.{rules}
use Rattle.place_words.proofs.align.linked_in.Goals as goal

pub linked_edge-moved-requires : goal.linked_edge-moved-requires
linked_edge-moved-requires c = record {
  standards_value = c.requires.standards_value;
  in_reach = (
    read-reach c.read_edge-from.result c.read_edge-from.ensures c.requires.in_reach.0,
    read-reach c.read_edge.result c.read_edge.ensures
        c.requires.in_reach.1,
  );
}

pub returns : goal.returns
returns c = linked-law c.args.base (is (got w32 _ c.struct_told-1.given.1.1.0.1)) c.read_edge-from.ensures c.read_edge.ensures c.args.rule
    c.args.standards.now c.linked_edge-moved.ensures
    c.put_pos.ensures
