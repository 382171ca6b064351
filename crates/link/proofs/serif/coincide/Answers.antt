-- `link::serif::coincide` meets its contract: equality is tested by the bits.
use borrow.Author.Tests.{eq-eqb, ne_eqb}
use mathlib.Core.Path.{sym, ◌∙◌}
use mir.Syntax.{w16}
use Rattle.signed.proofs.Reading.{eq-same}
use Rattle.link.proofs.serif.coincide.Goals as goal

pub returns-then-seg1-seg2 : goal.returns-then-seg1-seg2
returns-then-seg1-seg2 c =
    let told = c in
    let start = told in
    rw (sym (eq-same w16 start.args.seg1.pos start.args.seg2.pos told.struct_told-1.given.1.1.0.1
    c.struct_told-2-1.given.1.1.0.1) ∙ ne_eqb _ _ c.if-seg1-seg2.true)

pub returns : goal.returns
returns c =
    let told3 = c in
    let else1 = told3 in
    let told2 = else1 in
    let told = told2 in
    let start = told in
    rw (sym (eq-same w16 start.args.seg1.pos start.args.seg2.pos told.struct_told-1.given.1.1.0.1 told2.struct_told-2-1.given.1.1.0.1)
    ∙ eq-eqb _ _ else1.if-seg1-seg2.false) (eq-same w16 start.args.link1.pos start.args.link2.pos told3.struct_told-3-1.given.1.1.0.1
    c.struct_told-4-1.given.1.1.0.1)
