-- `build_join::rules::new_edge` meets its contract: the scaled position fits.
use mir.Syntax.{w16, w32}
use Rattle.signed.proofs.Signed.{is, got}
use Rattle.signed.proofs.Reading.{back, cast-16, back-16}
use Rattle.build_join.proofs.rules.new_edge.Goals as goal

pub overflow_cast-segment : goal.overflow_cast-segment
overflow_cast-segment c = cast-16 c.args.segment.pos c.struct_told-1.given.1.1.0.1

pub fixed_mul-opos-requires : goal.fixed_mul-opos-requires
fixed_mul-opos-requires c =
    let start = c in
    rw (back-16 start.args.segment.pos c.struct_told-1.given.1.1.0.1, is start.ranges.scale) start.requires

pub returns : goal.returns
returns c =
    let told2 = c in
    let fixed-mul = told2 in
    let told = fixed-mul in
    let start = told in
    let at = told.struct_told-1.given.1.1.0.1 in
    let e = rw (back-16 start.args.segment.pos at, is start.ranges.scale) at fixed-mul.fixed_mul-opos.ensures in
    rw (back w16 start.args.segment.pos at, is (got w32 fixed-mul.fixed_mul-opos.result fixed-mul.fixed_mul-opos.type_inv), e)
