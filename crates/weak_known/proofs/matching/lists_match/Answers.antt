-- `weak_known::matching::lists_match` meets its contract. The invariant: the contours passed match, and what is left decides.
use native.Mathlib.Omega.{arith}
use mathlib.Core.Path.{◌≡◌, sym, ap, ◌∙◌}
use Prim.Native.Nat.{ℕ, ◌+◌, ◌≤◌, ◌<◌}
use lib.ListN.{length, get_or}
use Rattle.weak_known.proofs.Rounds.{passed_none, passed-next, turn_low, turn-high, left-all, left-fails, left-next, left_end}
use Rattle.weak_known.proofs.matching.lists_match.Goals as goal

pub loop-x-init : goal.loop-x-init
loop-x-init c = (passed_none _ _ c.requires.ends_value, left-all _ _ _ _)

pub overflow_add-e : goal.overflow_add-e
overflow_add-e c =
    let more : c.loop-x.x-index < length c.args.ends.now = c.loop-x-test.true in
    let end_is : c.from-e.result + 1 ≡ get_or c.args.ends.now c.loop-x.x-index 0 + 1 = ap (λ (x : ℕ). x + 1) c.from-e.ensures in
    let high : c.from-e.result + 1 ≤ length c.args.touched.now = turn-high c.args.touched.now c.args.ends.now c.loop-x.s c.loop-x.x-index (c.from-e.result + 1) more end_is c.loop-x.invariant.0 in
    let h = high in let p = c.requires.before_len in omega arith

pub contour_same-requires : goal.contour_same-requires
contour_same-requires c =
    let more : c.loop-x.x-index < length c.args.ends.now = c.loop-x-test.true in
    let end_is : c.from-e.result + 1 ≡ get_or c.args.ends.now c.loop-x.x-index 0 + 1 = ap (λ (x : ℕ). x + 1) c.from-e.ensures in
    let low : c.loop-x.s < c.from-e.result + 1 = turn_low c.args.touched.now c.args.ends.now c.loop-x.s c.loop-x.x-index (c.from-e.result + 1) more end_is c.loop-x.invariant.0 in
    let high : c.from-e.result + 1 ≤ length c.args.touched.now = turn-high c.args.touched.now c.args.ends.now c.loop-x.s c.loop-x.x-index (c.from-e.result + 1) more end_is c.loop-x.invariant.0 in
    let h = high in let p = c.requires.before_len in (low, h, omega arith, omega arith, omega arith)

pub returns-then-not-contour_same : goal.returns-then-not-contour_same
returns-then-not-contour_same c =
    let more : c.loop-x.x-index < length c.args.ends.now = c.loop-x-test.true in
    let end_is : c.from-e.result + 1 ≡ get_or c.args.ends.now c.loop-x.x-index 0 + 1 = ap (λ (x : ℕ). x + 1) c.from-e.ensures in
    let v = c.loop-x in
    sym (v.invariant.1 ∙ left-fails c.args.touched.now c.args.ends.now c.args.before.now c.args.behind.now v.s v.x-index (c.from-e.result + 1)
    more end_is v.invariant.0 _
    c.contour_same.ensures c.if-not-contour_same.true)

pub loop-x-preserved : goal.loop-x-preserved
loop-x-preserved c =
    let more : c.loop-x.x-index < length c.args.ends.now = c.loop-x-test.true in
    let end_is : c.from-e.result + 1 ≡ get_or c.args.ends.now c.loop-x.x-index 0 + 1 = ap (λ (x : ℕ). x + 1) c.from-e.ensures in
    let v = c.loop-x in (
      passed-next c.args.touched.now c.args.ends.now v.s v.x-index (c.from-e.result + 1) more end_is v.invariant.0,
      v.invariant.1 ∙ left-next c.args.touched.now c.args.ends.now c.args.before.now c.args.behind.now v.s v.x-index (c.from-e.result + 1)
          more end_is v.invariant.0 _
          c.contour_same.ensures c.if-not-contour_same.false,
    )

pub plain_same-x-requires : goal.plain_same-x-requires
plain_same-x-requires c = let p = c.requires.before_len in let w = c.loop-x.invariant.0.within in (omega arith, omega arith, omega arith)

pub plain_same-y-requires : goal.plain_same-y-requires
plain_same-y-requires c = let p = c.requires.before_len in
    let w = c.loop-x.invariant.0.within in (omega arith, omega arith, omega arith)

pub returns : goal.returns
returns c = let v = c.loop-x in
    left_end c.args.touched.now c.args.ends.now c.args.before.now c.args.behind.now v.s v.x-index _ _ v.invariant.0 c.loop-x-test.false
    c.plain_same-x.ensures c.plain_same-y.ensures
    ∙ sym v.invariant.1
