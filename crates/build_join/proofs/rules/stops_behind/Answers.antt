-- `build_join::rules::stops_behind` meets its contract: by the two orders of positions.
use mathlib.Core.Path.{◌≡◌, ◌∙◌}
use mathlib.Core.Bool.{false}
use lib.Signed.{lt_z}
use Rattle.axis.proofs.Equal.{same-directions}
use mir.Syntax.{w16}
use Rattle.build_join.specs.Joining as J
use Rattle.signed.proofs.Reading.{lt-was}
use Rattle.build_join.proofs.rules.stops_behind.Goals as goal

pub returns-then-prev-edge : goal.returns-then-prev-edge
unfolding J.stops_behind
returns-then-prev-edge c =
    let g = c.args in
    rw (lt-was w16 g.prev.fpos g.edge.fpos c.struct_told-1.given.0.1 c.struct_told-2-1.given.0.1 c.if-prev-edge.true)

pub returns-then-edge-prev : goal.returns-then-edge-prev
unfolding J.stops_behind
returns-then-edge-prev c =
    let not-before : lt_z c.args.prev.fpos c.args.edge.fpos ≡ false =
    let g = c.args in
    lt-was w16 g.prev.fpos g.edge.fpos c.struct_told-1.given.0.1 c.struct_told-2-1.given.0.1 c.if-prev-edge.false in
    let g = c.args in
    rw (not-before, lt-was w16 g.edge.fpos g.prev.fpos c.struct_told-3-1.given.0.1 c.struct_told-4-1.given.0.1 c.if-edge-prev.true)

pub returns : goal.returns
unfolding J.stops_behind
returns c =
    let not-before : lt_z c.args.prev.fpos c.args.edge.fpos ≡ false =
    let g = c.args in
    lt-was w16 g.prev.fpos g.edge.fpos c.struct_told-1.given.0.1 c.struct_told-2-1.given.0.1 c.if-prev-edge.false in
    let g = c.args in
    rw (not-before, lt-was w16 g.edge.fpos g.prev.fpos c.struct_told-3-1.given.0.1 c.struct_told-4-1.given.0.1 c.if-edge-prev.false)
    (c.eq.ensures ∙ same-directions _ _)
