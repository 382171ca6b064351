-- `build_mark_words::mark::member_in` meets its contract.
use native.Mathlib.Omega.{arith}
use Rattle.axis.specs.Limits.{most_edges}
use Rattle.axis.proofs.Acceptance.{below-to}
use Rattle.build_mark_words.proofs.mark.member_in.Goals as goal

pub put_ring-requires : goal.put_ring-requires
put_ring-requires c =
    let s = c in
    (s.requires.0, s.requires.1, below-to most_edges _ s.requires.2, below-to 65536 _ (omega (arith, s.ranges.next)))

pub shape_of-words : goal.shape_of-words
shape_of-words c = c.put_ring.ensures.long

pub returns : goal.returns
returns c = c.put_ring.ensures
