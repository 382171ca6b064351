-- `build_properties::outcome::with_properties` meets its contract: each number that is kept is read back.
use borrow.Author.Rules.{rules}
use mathlib.Core.Bool.{false}
use mir.Syntax.{w16, w32}
use Rattle.signed.proofs.Signed.{is, got}
use Rattle.build_properties.specs.Properties as P
use Rattle.build_properties.proofs.outcome.with_properties.Goals as goal

pub returns : goal.returns
unfolding P.with_properties
returns c =
    let told2 = c in
    let told = told2 in
    let serif-beside = told in
    let start = serif-beside in
    let e = start.args.edge in
    λ i. record {
      fpos = is (got w16 e.fpos told.struct_told-1.given.0.1) i;
      opos = is (got w32 e.opos told2.struct_told-2-1.given.1.0.1) i;
      pos = is (got w32 e.pos c.struct_told-3-1.given.1.1.0.1) i;
      flags = record { round = serif-beside.is_round-round.ensures i; serif = false; done = false; neutral = false };
      dir = e.dir;
      blue = e.blue;
      link = e.link;
      serif = serif-beside.serif_beside-serif.ensures i;
      first = e.first;
      last = e.last;
      mark = e.mark;
    }
