-- `build_properties::outcome::joined_to` meets its contract: by the way of the join; each number that is kept is read back.
use borrow.Author.Rules.{rules}
use mir.Syntax.{w16, w32}
use Rattle.signed.proofs.Signed.{is, got}
use Rattle.build_properties.specs.Outcomes as O
use Rattle.build_properties.proofs.outcome.joined_to.Goals as goal

pub returns-then-join : goal.returns-then-join
unfolding O.joined_by
returns-then-join c =
    let told3 = c in
    let told2 = told3 in
    let told = told2 in
    let nearer = told in
    let start = nearer in
    rw (
      nearer.if-join.true,
      is (got w16 start.args.edge.fpos told.struct_told-1.given.0.1),
      is
          (got w32 start.args.edge.opos told2.struct_told-then-join-1.given.1.0.1),
      is (got w32 start.args.edge.pos told3.struct_told-then-join-2-1.given.1.1.0.1),
      nearer.nearer-serif.ensures,
    )

pub returns : goal.returns
unfolding O.joined_by
returns c =
    let told6 = c in
    let told5 = told6 in
    let told4 = told5 in
    let nearer = told4 in
    let start = nearer in
    rw (
      nearer.if-join.false,
      is (got w16 start.args.edge.fpos told4.struct_told-2-1.given.0.1),
      is
          (got w32 start.args.edge.opos told5.struct_told-3-1.given.1.0.1),
      is (got w32 start.args.edge.pos told6.struct_told-4-1.given.1.1.0.1),
      nearer.nearer-link.ensures,
    )
