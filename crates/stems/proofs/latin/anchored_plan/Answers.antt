-- `stems::latin::anchored_plan` meets its contract.
use mathlib.Core.Path.{◌≡◌}
use native.Mathlib.Omega.{arith}
use lib.IntN.{◌-ℤ◌}
use mir.Syntax.{w32}
use mir.Val.{to_z, of_z}
use Rattle.signed.proofs.Signed.{is, got, add-law, sub-law}
use Rattle.place.proofs.Reach.{width-range}
use Rattle.stems.specs.Visit.{width_of, start_beside}
use Rattle.stems.specs.Plan.{anchored_plan}
use borrow.Author.Rules.{rules}
use Rattle.stems.proofs.latin.anchored_plan.Goals as goal
use Rattle.stems.proofs.latin.anchored_plan.Goals.{After-original_len-org_len, After-start_beside-start, After-width_of-width}

-- the fitted width, read back
width_is : (c : After-width_of-width) → to_z w32 (of_z w32 c.width_of-width.result)
    ≡ width_of c.args.mode.rule c.args.standards.now c.args.edge c.args.edge2
width_is c = rw (is (got w32 c.width_of-width.result c.width_of-width.type_inv)) c.width_of-width.ensures

pub behind_plan-requires : goal.behind_plan-requires
behind_plan-requires c =
    let s = c.before.before in (s.requires.in_reach.1, rw (width_is c.before) (width-range _ _ _ _ s.requires.in_reach.0.opos s.requires.in_reach.1.opos))

pub returns-then-edge2 : goal.returns-then-edge2
unfolding anchored_plan
returns-then-edge2 c = let t = c.before in rw t.if-edge2.true (rw (width_is t.before) at c.behind_plan.ensures)

-- the original length, read back
length-is : (c : After-original_len-org_len) → to_z w32 (of_z w32 c.original_len-org_len.result)
    ≡ c.args.edge2.opos -ℤ c.args.edge.opos
length-is c = rw (is (got w32 c.original_len-org_len.result c.original_len-org_len.type_inv)) c.original_len-org_len.ensures

-- the start, read back
start_is : (c : After-start_beside-start) → to_z w32 (of_z w32 c.start_beside-start.result)
    ≡ start_beside c.args.anchor c.args.edge
start_is c = rw (is (got w32 c.start_beside-start.result c.start_beside-start.type_inv)) c.start_beside-start.ensures

pub centred_plan-requires : goal.centred_plan-requires
centred_plan-requires c =
    let l = c.before in
    let w = l.before.before in
    let s = w.before in
    let e = s.requires.in_reach.0 in
    let f = s.requires.in_reach.1 in
    let a = s.requires.in_reach.2 in
    let shift = add-law s.args.anchor.pos (s.args.edge.opos -ℤ s.args.anchor.opos) in
    let apart = sub-law s.args.edge.opos s.args.anchor.opos in
    let len = sub-law s.args.edge2.opos s.args.edge.opos in
    rw (start_is c, length-is l, width_is w)
    (omega (arith, a.pos, a.opos, e.opos, shift, apart), omega (arith, e.opos, f.opos, len), width-range _ _ _ _ e.opos f.opos)

pub returns : goal.returns
unfolding anchored_plan
returns c =
    let b = c.before in
    let l = b.before in
    let o = l.before in
    rw o.if-edge2.false (rw (start_is b, length-is l, width_is o.before) at c.centred_plan.ensures)
