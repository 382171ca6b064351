-- `stems::latin::start_beside` meets its contract.
use native.Mathlib.Omega.{arith}
use lib.IntN.{ℤ, ◌+ℤ◌, ◌-ℤ◌}
use mir.Syntax.{w32}
use mir.Val.{SFits, to_z, of_z}
use Rattle.signed.proofs.Signed.{fits, fits-in, is, ◌also◌, signed}
use Rattle.axis.specs.declared.edge.Edge.{Edge}
use Rattle.place.specs.Steps.{InReach}
use Rattle.place.proofs.Reach.{units-read, reach-read}
use Rattle.stems.proofs.latin.start_beside.Goals as goal

-- the distance of the original positions, and the position as far from the anchor's, as the machine computes them
abbrev apart : Edge → Edge → ℤ
apart a e = to_z w32 (of_z w32 e.opos) -ℤ to_z w32 (of_z w32 a.opos)

apart-fits : (a e : Edge) → InReach a → InReach e → SFits w32 (apart a e)
apart-fits a e h g = let k = fits-in w32 h.opos tt tt also fits-in w32 g.opos tt tt in fits (omega (arith, signed))

beside-fits : (a e : Edge) → InReach a → InReach e → SFits w32 (to_z w32 (of_z w32 a.pos) +ℤ to_z w32 (of_z w32 (apart a e)))
beside-fits a e h g =
    let k = fits-in w32 h.pos tt tt also fits-in w32 h.opos tt tt also fits-in w32 g.opos tt tt also apart-fits a e h g in fits (omega (arith, signed))

pub overflow_sub-result : goal.overflow_sub-result
overflow_sub-result c = apart-fits c.args.anchor c.args.edge c.requires.0 c.requires.1

pub overflow_add-result : goal.overflow_add-result
overflow_add-result c = beside-fits c.args.anchor c.args.edge c.requires.0 c.requires.1

pub returns : goal.returns
returns c =
    let h = c.requires.0 in
    let g = c.requires.1 in
    rw (
      is (beside-fits c.args.anchor c.args.edge h g),
      is (apart-fits c.args.anchor c.args.edge h g),
      reach-read _ h.pos,
      units-read _ h.opos,
      units-read _ g.opos,
    )
