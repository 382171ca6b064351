-- `build_properties::join::join_of` meets its contract: by the test of the serif's edge.
use borrow.Author.Rules.{rules}
use mathlib.Core.Path.{◌≡◌, sym, ◌∙◌}
use mathlib.Core.Bool.{Bool}
use mir.Syntax.{w16, w32}
use Rattle.signed.proofs.Signed.{is, got}
use Rattle.build_properties.specs.Properties.{named_edge, is_other, join_of}
use Rattle.build_properties.proofs.join.join_of.Goals as goal
use Rattle.build_properties.proofs.join.join_of.Goals.{After-is_other}

-- the test of the serif's edge
tested : (c : After-is_other) {v : Bool} → c.is_other.result ≡ v
    → is_other c.args.edge_ix (named_edge c.args.segment.serif c.args.serif) ≡ v
tested c e = sym (rw c.named_edge-edge.ensures at c.is_other.ensures) ∙ e

pub returns-then-is_other : goal.returns-then-is_other
unfolding join_of
returns-then-is_other c =
    let told2 = c.before in
    let told = told2.before in
    let then1 = told.before in
    let is-other = then1.before in
    let start = is-other.before.before in
    let d = rw (
      is (got w16 start.args.segment.pos told.struct_told-1.given.1.1.0.1),
      is
          (got w16 start.args.serif.pos told2.struct_told-then-is_other-1.given.1.1.0.1),
    ) at
    c.distance-delta.ensures in
    rw (tested is-other then1.if-is_other.true, is (got w32 c.distance-delta.result c.distance-delta.type_inv), d, is-other.named_edge-edge.ensures)

pub returns : goal.returns
unfolding join_of
returns c =
    let told4 = c.before in
    let told3 = told4.before in
    let named-edge2 = told3.before in
    let else1 = named-edge2.before in
    let is-other = else1.before in
    let start = is-other.before.before in
    let d = rw (
      is (got w16 start.args.segment.pos told3.struct_told-2-1.given.1.1.0.1),
      is
          (got w16 start.args.link.pos told4.struct_told-3-1.given.1.1.0.1),
    ) at
    c.distance-delta-2.ensures in
    rw (tested is-other else1.if-is_other.false, is (got w32 c.distance-delta-2.result c.distance-delta-2.type_inv), d, named-edge2.named_edge-linked.ensures)
