-- `remaining_words::copied::align_copied` meets its contract.
use native.Mathlib.Omega.{arith}
use lib.ListN.{length}
use lib.IntN.{pos}
use Rattle.words.specs.Edge.{table_size}
use Rattle.remaining_words.proofs.Copying.{room-long}
use borrow.Author.Rules.{rules}
use Rattle.remaining_words.proofs.copied.align_copied.Goals as goal

pub slice_bounds-room-end : goal.slice_bounds-room-end
slice_bounds-room-end c = let w = c.requires.whole in omega (arith, w.few, w.long)

pub try_in-requires : goal.try_in-requires
try_in-requires c = let w = c.requires.whole in (c.requires, room-long table_size (length c.args.words.now) (pos 0) (omega (arith, w.few, w.long)))

pub shape_of-words : goal.shape_of-words
shape_of-words c = c.try_in.ensures.long

pub returns : goal.returns
returns c = c.try_in.ensures
