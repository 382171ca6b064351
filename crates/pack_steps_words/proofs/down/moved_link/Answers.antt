-- `pack_steps_words::down::moved_link` meets its contract.
use Rattle.pack_steps_words.proofs.down.moved_link.Goals as goal

pub bounds-new-at : goal.bounds-new-at
bounds-new-at c = c.requires.at _ c.in-Some.is

pub returns : goal.returns
returns c = rw c.in-Some.is
