-- `build_mark::mark::member_of` meets its contract: each number that is kept is read back.
use Rattle.std.specs.Prelude.{Some}
use mir.Syntax.{w16, w32}
use Rattle.signed.proofs.Reading.{back}
use Rattle.build_mark.proofs.mark.member_of.Goals as goal

pub returns : goal.returns
returns c =
    let told6 = c in
    let told5 = told6 in
    let told4 = told5 in
    let told3 = told4 in
    let told2 = told3 in
    let told = told2 in
    let start = told in
    let s = start.args.segment in
    λ i. record {
      flags = s.flags;
      dir = s.dir;
      pos = back w16 s.pos told.struct_told-1.given.1.1.0.1 i;
      delta = back w16 s.delta told2.struct_told-2-1.given.1.1.1.0.1 i;
      min_coord = back w16 s.min_coord told3.struct_told-3-1.given.1.1.1.1.0.1 i;
      max_coord = back w16 s.max_coord told4.struct_told-4-1.given.1.1.1.1.1.0.1 i;
      height = back w16 s.height told5.struct_told-5-1.given.1.1.1.1.1.1.0.1 i;
      score = back w32 s.score told6.struct_told-6-1.given.1.1.1.1.1.1.1.0.1 i;
      len = back w32 s.len c.struct_told-7-1.given.1.1.1.1.1.1.1.1.0.1 i;
      link = s.link;
      serif = s.serif;
      first = s.first;
      last = s.last;
      edge = Some start.args.edge;
      next = Some start.args.next;
    }
