-- `gaps::find::find_lost` meets its contract: each turn adds the pair that an edge ends.
use native.Mathlib.Omega.{arith}
use mathlib.Core.Path.{ap, ◌∙◌}
use Prim.Native.Nat.{◌-◌, ◌<◌}
use borrow.Author.Tests.{not-true, not-false}
use lib.IntN.{ℤ}
use Rattle.signed.proofs.Signed.{is}
use Rattle.axis.specs.Limits.{most_edges}
use Rattle.gaps.specs.Gaps.{found_in}
use Rattle.gaps.proofs.Turns.{search-starts, search-ends, search-few, search-undone, search-skips, starts-inside, search-steps, placed_at, read-or}
use Rattle.gaps.proofs.find.find_lost.Goals as goal

-- ---- the answers
pub loop-i-init : goal.loop-i-init
loop-i-init c = search-starts _ _ _

pub overflow_add-found : goal.overflow_add-found
overflow_add-found c = omega (arith, (search-few _ _ _ _ _ _ c.loop-i.invariant c.requires).undone)

pub loop-i-preserved-then-not-edge : goal.loop-i-preserved-then-not-edge
loop-i-preserved-then-not-edge c = search-undone _ _ _ _ _ _ c.loop-i.invariant c.loop-i-test.true (not-true _ c.if-not-edge.true)

pub loop-i-preserved-then-not-asked_for : goal.loop-i-preserved-then-not-asked_for
loop-i-preserved-then-not-asked_for c = search-skips _ _ _ _ _ _ c.loop-i.invariant c.loop-i-test.true (not-false _ c.if-not-edge.false) _ c.asked_for.ensures
    c.if-not-asked_for.true

pub offset_bounds-axis-k : goal.offset_bounds-axis-k
offset_bounds-axis-k c =
    let start-in : c.map_or-k.result < c.args.axis.len = starts-inside _ _ _ _ _ _ c.loop-i.invariant c.loop-i-test.true _ (read-or _ _ _ c.map_or-k.ensures) in
    let start-inside : c.map_or-k.result < most_edges = omega (arith, start-in, c.requires.few) in
    omega (arith, start-inside)

pub bounds-axis-k : goal.bounds-axis-k
bounds-axis-k c =
    let start-in : c.map_or-k.result < c.args.axis.len = starts-inside _ _ _ _ _ _ c.loop-i.invariant c.loop-i-test.true _ (read-or _ _ _ c.map_or-k.ensures) in
    let start-inside : c.map_or-k.result < most_edges = omega (arith, start-in, c.requires.few) in
    start-inside

pub with_pair-found-requires : goal.with_pair-found-requires
with_pair-found-requires c =
    let start-in : c.map_or-k.result < c.args.axis.len = starts-inside _ _ _ _ _ _ c.loop-i.invariant c.loop-i-test.true _ (read-or _ _ _ c.map_or-k.ensures) in
    let w = c.requires in
    (search-few _ _ _ _ _ _ c.loop-i.invariant w, placed_at _ _ w start-in, placed_at _ _ w c.loop-i-test.true)

pub loop-i-preserved : goal.loop-i-preserved
loop-i-preserved c = search-steps _ _ _ _ _ _ c.loop-i.invariant c.loop-i-test.true (not-false _ c.if-not-edge.false) _ c.asked_for.ensures
    c.if-not-asked_for.false _ _ (read-or _ _ _ c.map_or-k.ensures)
    c.with_pair-found.ensures

pub returns : goal.returns
returns c = search-ends _ _ _ _ _ _ c.loop-i.invariant c.loop-i-test.false ∙ ap (λ (z : ℤ). found_in z c.args.linked c.args.axis) (is c.ranges.least)
