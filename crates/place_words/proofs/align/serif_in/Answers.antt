-- `place_words::align::serif_in` meets its contract.
use mir.Syntax.{w32}
use Rattle.signed.proofs.Signed.{is, got}
use Rattle.place_words.proofs.Places.{read-reach, serif-law}
use borrow.Author.Rules.{rules}
use Rattle.place_words.proofs.align.serif_in.Goals as goal

pub serif_edge-moved-requires : goal.serif_edge-moved-requires
serif_edge-moved-requires c = (read-reach c.read_edge-from.result c.read_edge-from.ensures c.requires.in_reach.0, read-reach c.read_edge.result c.read_edge.ensures c.requires.in_reach.1)

pub returns : goal.returns
returns c = serif-law c.args.base (is (got w32 _ c.struct_told-1.given.1.1.0.1)) c.read_edge-from.ensures c.read_edge.ensures
    c.serif_edge-moved.ensures
    c.put_pos.ensures
