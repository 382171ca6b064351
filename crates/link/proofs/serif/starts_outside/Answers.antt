-- `link::serif::starts_outside` meets its contract: the order is tested the other way round.
use mir.Syntax.{w16}
use Rattle.signed.proofs.Reading.{lt-turned}
use Rattle.link.proofs.serif.starts_outside.Goals as goal

pub returns-then-seg1-seg2 : goal.returns-then-seg1-seg2
returns-then-seg1-seg2 c =
    let told = c in
    let start = told in
    rw (lt-turned w16 start.args.seg1.pos start.args.seg2.pos told.struct_told-1.given.1.1.0.1 c.struct_told-2-1.given.1.1.0.1
    c.if-seg1-seg2.true)

pub returns : goal.returns
returns c =
    let told = c in
    let start = told in
    rw (lt-turned w16 start.args.seg1.pos start.args.seg2.pos told.struct_told-1.given.1.1.0.1 c.struct_told-2-1.given.1.1.0.1
    c.if-seg1-seg2.false)
