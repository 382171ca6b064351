-- `gaps_words::find::find_in` meets its contract: each turn adds the pair that an edge ends.
use native.Mathlib.Omega.{arith}
use mathlib.Core.Path.{sym, ap, ◌∙◌}
use Prim.Native.Nat.{◌-◌, ◌<◌}
use borrow.Author.Tests.{not-true, not-false}
use lib.IntN.{ℤ}
use mir.Syntax.{w32}
use mir.Val.{to_z, of_z}
use Rattle.signed.proofs.Signed.{is}
use Rattle.gaps.specs.Answer.{found_of}
use Rattle.gaps.specs.Gaps.{found_in}
use Rattle.gaps.specs.Steps.{Placed}
use Rattle.gaps.proofs.Turns.{adds-kept, search-starts, search-ends, search-few, search-undone, search-skips, starts-inside, search-steps, read-or}
use Rattle.words_call.specs.Lent.{edges_of}
use Rattle.words_edge.proofs.Wholes.{edges-len}
use Rattle.gaps_words.proofs.Search.{read-placed, read_done, read_asked, read-pair}
use Rattle.gaps_words.proofs.find.find_in.Goals as goal

-- ---- the answers
pub loop-i-init : goal.loop-i-init
loop-i-init c = search-starts _ _ _

pub read_edge-edge-requires : goal.read_edge-edge-requires
read_edge-edge-requires c = (c.requires.0, c.loop-i-test.true)

pub overflow_add-found : goal.overflow_add-found
overflow_add-found c = omega (arith, (search-few _ _ _ _ _ _ c.loop-i.invariant c.requires.1).undone)

pub loop-i-preserved-then-not-edge : goal.loop-i-preserved-then-not-edge
loop-i-preserved-then-not-edge c =
    let of-axis : c.loop-i.i < (edges_of c.args.words.now).len = omega (arith, c.loop-i-test.true, edges-len c.args.words.now) in
    search-undone _ _ _ _ _ _ c.loop-i.invariant of-axis
    (read_done c.args.words.now _ c.read_edge-edge.ensures (not-true _ c.if-not-edge.true))

pub loop-i-preserved-then-not-asked_for : goal.loop-i-preserved-then-not-asked_for
loop-i-preserved-then-not-asked_for c =
    let of-axis : c.loop-i.i < (edges_of c.args.words.now).len = omega (arith, c.loop-i-test.true, edges-len c.args.words.now) in
    let ws = c.args.words.now in
    search-skips _ _ _ _ _ _ c.loop-i.invariant of-axis (read_done ws _ c.read_edge-edge.ensures (not-false _ c.if-not-edge.false)) _
    (read_asked ws _ c.read_edge-edge.ensures c.args.linked c.asked_for.ensures) c.if-not-asked_for.true

pub read_edge-front-requires : goal.read_edge-front-requires
read_edge-front-requires c =
    let of-axis : c.loop-i.i < (edges_of c.args.words.now).len = omega (arith, c.loop-i-test.true, edges-len c.args.words.now) in
    let start-in : c.map_or-k.result < (edges_of c.args.words.now).len = starts-inside _ _ _ _ _ _ c.loop-i.invariant of-axis _ (read-or _ _ _ c.map_or-k.ensures) in
    (c.requires.0, omega (arith, start-in, edges-len c.args.words.now))

pub is_lost-requires : goal.is_lost-requires
is_lost-requires c =
    let of-axis : c.loop-i.i < (edges_of c.args.words.now).len = omega (arith, c.loop-i-test.true, edges-len c.args.words.now) in
    let start-in : c.map_or-k.result < (edges_of c.args.words.now).len = starts-inside _ _ _ _ _ _ c.loop-i.invariant of-axis _ (read-or _ _ _ c.map_or-k.ensures) in
    let placed : Placed c.map_or-k.result c.read_edge-front.result
    × Placed c.loop-i.i c.read_edge-edge.result = let ws = c.args.words.now in
    (read-placed ws _ c.read_edge-front.ensures c.requires.1 start-in, read-placed ws _ c.read_edge-edge.ensures c.requires.1 of-axis) in
    let p = placed in
    record {
      between = (p.0.opos, p.1.opos);
      between_2 = (p.0.pos, p.1.pos);
    }

pub loop-i-preserved-then-not-is_lost : goal.loop-i-preserved-then-not-is_lost
loop-i-preserved-then-not-is_lost c =
    let ws = c.args.words.now in
    let of-axis : c.loop-i.i < (edges_of ws).len = omega (arith, c.loop-i-test.true, edges-len ws) in
    search-steps _ _ _ _ _ _ c.loop-i.invariant of-axis (read_done ws _ c.read_edge-edge.ensures (not-false _ c.if-not-edge.false)) _
    (read_asked ws _ c.read_edge-edge.ensures c.args.linked c.asked_for.ensures) c.if-not-asked_for.false _ _ (read-or _ _ _ c.map_or-k.ensures)
    (read-pair ws _ c.read_edge-front.ensures (to_z w32 (of_z w32 c.args.least)) (found_of c.loop-i.found) _ c.read_edge-edge.ensures (
    adds-kept (to_z w32 (of_z w32 c.args.least)) (found_of c.loop-i.found) c.map_or-k.result c.read_edge-front.result c.loop-i.i c.read_edge-edge.result
    (sym c.is_lost.ensures ∙ c.if-not-is_lost.true)))

pub with_pair-found-requires : goal.with_pair-found-requires
with_pair-found-requires c =
    let of-axis : c.loop-i.i < (edges_of c.args.words.now).len = omega (arith, c.loop-i-test.true, edges-len c.args.words.now) in
    let start-in : c.map_or-k.result < (edges_of c.args.words.now).len = starts-inside _ _ _ _ _ _ c.loop-i.invariant of-axis _ (read-or _ _ _ c.map_or-k.ensures) in
    let placed : Placed c.map_or-k.result c.read_edge-front.result
    × Placed c.loop-i.i c.read_edge-edge.result = let ws = c.args.words.now in
    (read-placed ws _ c.read_edge-front.ensures c.requires.1 start-in, read-placed ws _ c.read_edge-edge.ensures c.requires.1 of-axis) in
    let p = placed in
    (search-few _ _ _ _ _ _ c.loop-i.invariant c.requires.1, p.0, p.1)

pub loop-i-preserved : goal.loop-i-preserved
loop-i-preserved c =
    let ws = c.args.words.now in
    let of-axis : c.loop-i.i < (edges_of ws).len = omega (arith, c.loop-i-test.true, edges-len ws) in
    search-steps _ _ _ _ _ _ c.loop-i.invariant of-axis (read_done ws _ c.read_edge-edge.ensures (not-false _ c.if-not-edge.false)) _
    (read_asked ws _ c.read_edge-edge.ensures c.args.linked c.asked_for.ensures) c.if-not-asked_for.false _ _ (read-or _ _ _ c.map_or-k.ensures)
    (read-pair ws _ c.read_edge-front.ensures (to_z w32 (of_z w32 c.args.least)) (found_of c.loop-i.found) _ c.read_edge-edge.ensures c.with_pair-found.ensures)

pub returns : goal.returns
returns c = let ws = c.args.words.now in
    search-ends _ _ _ _ _ _ c.loop-i.invariant (omega (arith, c.loop-i-test.false, edges-len ws))
    ∙ ap (λ (z : ℤ). found_in z c.args.linked (edges_of ws)) (is c.ranges.least)
