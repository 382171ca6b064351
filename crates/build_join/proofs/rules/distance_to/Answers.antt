-- `build_join::rules::distance_to` meets its contract.
use borrow.Author.Rules.{rules}
use Rattle.signed.proofs.Reading.{cast-16, back-16}
use Rattle.build_join.proofs.rules.distance_to.Goals as goal

pub overflow_cast-segment : goal.overflow_cast-segment
overflow_cast-segment c = cast-16 c.args.segment.pos c.struct_told-1.given.1.1.0.1

pub overflow_cast-edge : goal.overflow_cast-edge
overflow_cast-edge c = cast-16 c.args.edge.fpos c.struct_told-2-1.given.0.1

pub returns : goal.returns
returns c =
    let told2 = c in
    let told = told2 in
    let start = told in
    rw (back-16 start.args.segment.pos told.struct_told-1.given.1.1.0.1, back-16 start.args.edge.fpos told2.struct_told-2-1.given.0.1)
    at c.distance.ensures
