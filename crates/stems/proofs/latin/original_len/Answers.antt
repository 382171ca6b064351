-- `stems::latin::original_len` meets its contract.
use native.Mathlib.Omega.{arith}
use mir.Syntax.{w32}
use Rattle.signed.proofs.Signed.{fits, fits-in, is, ◌also◌, signed}
use Rattle.place.proofs.Reach.{units-read}
use Rattle.stems.proofs.latin.original_len.Goals as goal

pub overflow_sub-result : goal.overflow_sub-result
overflow_sub-result c =
    let s = c.before.before.before.before in
    let k = fits-in w32 s.requires.0.opos tt tt also fits-in w32 s.requires.1.opos tt tt in fits (omega (arith, signed))

pub returns : goal.returns
returns c = let s = c.before.before.before.before in rw (is (overflow_sub-result c), units-read _ s.requires.0.opos, units-read _ s.requires.1.opos)
