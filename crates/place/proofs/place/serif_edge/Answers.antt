-- `place::place::serif_edge` meets its contract.
use mir.Syntax.{w32}
use Rattle.signed.proofs.Signed.{is, got}
use Rattle.place.proofs.Reach.{units-read, reach-read}
use borrow.Author.Rules.{rules}
use Rattle.place.proofs.place.serif_edge.Goals as goal

pub serif_pos-pos-requires : goal.serif_pos-pos-requires
serif_pos-pos-requires c =
    let s = c in
    let b = s.requires.0 in
    let e = s.requires.1 in
    rw (reach-read _ b.pos, units-read _ b.opos, units-read _ e.opos) (b.pos, b.opos, e.opos)

pub returns : goal.returns
returns c =
    let p = c in
    let s = p in
    let b = s.requires.0 in
    let e = s.requires.1 in
    rw (
      is (got w32 p.serif_pos-pos.result p.serif_pos-pos.type_inv),
      rw (reach-read _ b.pos, units-read _ b.opos, units-read _ e.opos)
          at p.serif_pos-pos.ensures,
    ) at c.with_pos.ensures
