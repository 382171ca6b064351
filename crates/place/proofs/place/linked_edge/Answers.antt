-- `place::place::linked_edge` meets its contract.
use mir.Syntax.{w32}
use Rattle.signed.proofs.Signed.{is, got}
use Rattle.place.proofs.Reach.{units-read, reach-read}
use borrow.Author.Rules.{rules}
use Rattle.place.proofs.place.linked_edge.Goals as goal

pub linked_pos-pos-requires : goal.linked_pos-pos-requires
linked_pos-pos-requires c =
    let s = c in
    let b = s.requires.in_reach.0 in
    let e = s.requires.in_reach.1 in
    record {
      standards_value = s.requires.standards_value;
      between = rw (reach-read _ b.pos, units-read _ b.opos, units-read _ e.opos) (b.pos, b.opos, e.opos);
    }

pub returns : goal.returns
returns c =
    let p = c in
    let s = p in
    let b = s.requires.in_reach.0 in
    let e = s.requires.in_reach.1 in
    rw (
      is (got w32 p.linked_pos-pos.result p.linked_pos-pos.type_inv),
      rw (reach-read _ b.pos, units-read _ b.opos, units-read _ e.opos)
          at p.linked_pos-pos.ensures,
    ) at c.with_pos.ensures
