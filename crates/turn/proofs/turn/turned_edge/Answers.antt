-- `turn::turn::turned_edge` meets its contract: each number that is kept is read back.
use mir.Syntax.{w16, w32}
use Rattle.refusals.proofs.Tests.{and_first, and_second}
use Rattle.axis.specs.Refusals.{edge_indices, link_holds}
use Rattle.signed.proofs.Reading.{back}
use Rattle.turn.proofs.turn.turned_edge.Goals as goal

pub turned_link-requires : goal.turned_link-requires
unfolding edge_indices
turned_link-requires c = (c.requires.0, and_first _ _ c.requires.1)

pub turned_link-requires-2 : goal.turned_link-requires-2
unfolding edge_indices
turned_link-requires-2 c = let s = c in (s.requires.0, and_second (link_holds s.args.count s.args.edge.link) _ s.requires.1)

pub returns : goal.returns
returns c =
    let told3 = c in
    let told2 = told3 in
    let told = told2 in
    let serif = told in
    let link = serif in
    let start = link in
    let e = start.args.edge in
    λ i. record {
      fpos = back w16 e.fpos told.struct_told-1.given.0.1 i;
      opos = back w32 e.opos told2.struct_told-2-1.given.1.0.1 i;
      pos = back w32 e.pos told3.struct_told-3-1.given.1.1.0.1 i;
      flags = e.flags;
      dir = e.dir;
      blue = e.blue;
      link = link.turned_link.ensures i;
      serif = serif.turned_link-2.ensures i;
      first = e.first;
      last = e.last;
      mark = e.mark;
    }
