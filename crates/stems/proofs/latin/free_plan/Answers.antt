-- `stems::latin::free_plan` meets its contract.
use mathlib.Core.Path.{◌≡◌}
use native.Mathlib.Omega.{arith}
use lib.IntN.{ℤ, ◌+ℤ◌, ◌-ℤ◌}
use mir.Syntax.{w32}
use mir.Val.{to_z, of_z}
use Rattle.signed.proofs.Signed.{fits-in, is, got, add-law, sub-law}
use Rattle.axis.specs.Limits.{most_units}
use Rattle.stems_latin.specs.Latin.{free_first}
use Rattle.stems_latin.proofs.Moves.{Placed, free-ends, free-second-range}
use Rattle.place.specs.Placing.{linked_pos}
use Rattle.place.proofs.Reach.{units-read, width-range}
use Rattle.stems.specs.Visit.{original_len, width_of}
use Rattle.stems.specs.Plan.{free_plan}
use borrow.Author.Rules.{rules}
use Rattle.stems.proofs.latin.free_plan.Goals as goal

pub free_first-first-requires : goal.free_first-first-requires
free_first-first-requires c =
    let width_is : to_z w32 (of_z w32 c.width_of-width.result)
    ≡ width_of c.args.mode.rule c.args.standards.now c.args.edge c.args.edge2 = rw (is (got w32 c.width_of-width.result c.width_of-width.type_inv)) c.width_of-width.ensures in
    let length-is : to_z w32 (of_z w32 c.original_len-org_len.result)
    ≡ c.args.edge2.opos -ℤ c.args.edge.opos = rw (is (got w32 c.original_len-org_len.result c.original_len-org_len.type_inv)) c.original_len-org_len.ensures in
    let e = c.requires.in_reach.0.opos in
    let f = c.requires.in_reach.1.opos in
    let len = sub-law c.args.edge2.opos c.args.edge.opos in
    let end = add-law c.args.edge.opos (c.args.edge2.opos -ℤ c.args.edge.opos) in
    rw (units-read _ e, length-is, width_is) (e, omega (arith, e, f, len), width-range _ _ _ _ e f, omega (arith, e, f, end, len))

pub overflow_add-result : goal.overflow_add-result
overflow_add-result c =
    let width_is : to_z w32 (of_z w32 c.width_of-width.result)
    ≡ width_of c.args.mode.rule c.args.standards.now c.args.edge c.args.edge2 = rw (is (got w32 c.width_of-width.result c.width_of-width.type_inv)) c.width_of-width.ensures in
    let length-is : to_z w32 (of_z w32 c.original_len-org_len.result)
    ≡ c.args.edge2.opos -ℤ c.args.edge.opos = rw (is (got w32 c.original_len-org_len.result c.original_len-org_len.type_inv)) c.original_len-org_len.ensures in
    let width : ℤ = width_of c.args.mode.rule c.args.standards.now c.args.edge c.args.edge2 in
    let first : ℤ = free_first c.args.edge.opos (original_len c.args.edge c.args.edge2) width in
    let free-is : to_z w32 (of_z w32 c.free_first-first.result) ≡ first = rw (is (got w32 c.free_first-first.result c.free_first-first.type_inv))
    (rw (units-read _ c.requires.in_reach.0.opos, length-is, width_is) at c.free_first-first.ensures) in
    let second-within : Placed most_units (first +ℤ width) = let e = c.requires.in_reach.0.opos in
    let f = c.requires.in_reach.1.opos in
    free-second-range _ _ _ _ (free-ends _ _ _ e f (width-range _ _ _ _ e f)) in
    rw (free-is, width_is) (fits-in w32 second-within tt tt)

pub returns : goal.returns
unfolding free_plan linked_pos
returns c =
    let width_is : to_z w32 (of_z w32 c.width_of-width.result)
    ≡ width_of c.args.mode.rule c.args.standards.now c.args.edge c.args.edge2 = rw (is (got w32 c.width_of-width.result c.width_of-width.type_inv)) c.width_of-width.ensures in
    let length-is : to_z w32 (of_z w32 c.original_len-org_len.result)
    ≡ c.args.edge2.opos -ℤ c.args.edge.opos = rw (is (got w32 c.original_len-org_len.result c.original_len-org_len.type_inv)) c.original_len-org_len.ensures in
    let width : ℤ = width_of c.args.mode.rule c.args.standards.now c.args.edge c.args.edge2 in
    let first : ℤ = free_first c.args.edge.opos (original_len c.args.edge c.args.edge2) width in
    let free-is : to_z w32 (of_z w32 c.free_first-first.result) ≡ first = rw (is (got w32 c.free_first-first.result c.free_first-first.type_inv))
    (rw (units-read _ c.requires.in_reach.0.opos, length-is, width_is) at c.free_first-first.ensures) in
    let second-within : Placed most_units (first +ℤ width) = let e = c.requires.in_reach.0.opos in
    let f = c.requires.in_reach.1.opos in
    free-second-range _ _ _ _ (free-ends _ _ _ e f (width-range _ _ _ _ e f)) in
    rw (free-is, width_is, is (fits-in w32 second-within tt tt))
