-- `stems::latin::width_of` meets its contract.
use native.Mathlib.Omega.{arith}
use mir.Syntax.{w32}
use Rattle.signed.proofs.Signed.{fits, fits-in, is, got, ◌also◌, signed}
use Rattle.place.proofs.Reach.{units-read}
use borrow.Author.Rules.{rules}
use Rattle.stems.proofs.latin.width_of.Goals as goal

pub overflow_sub-edge2 : goal.overflow_sub-edge2
overflow_sub-edge2 c =
    let s = c.before.before.before.before in
    let k = fits-in w32 s.requires.in_reach.0.opos tt tt also fits-in w32 s.requires.in_reach.1.opos tt tt in fits (omega (arith, signed))

pub returns : goal.returns
returns c =
    let s = c.before.before.before.before.before in
    rw (is (got w32 c.stem_width.result c.stem_width.type_inv))
    (rw (is (overflow_sub-edge2 c.before), units-read _ s.requires.in_reach.0.opos, units-read _ s.requires.in_reach.1.opos) at c.stem_width.ensures)
