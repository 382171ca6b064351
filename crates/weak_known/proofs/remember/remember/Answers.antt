-- `weak_known::remember::remember` meets its contract. The invariant: the contours passed are written.
use native.Mathlib.Omega.{arith}
use mathlib.Core.Path.{◌≡◌, ap}
use Prim.Native.Nat.{ℕ, ◌+◌, ◌≤◌, ◌<◌}
use lib.ListN.{length, get_or}
use Rattle.weak_known.proofs.Entries.{plain-before, plain-behind}
use Rattle.weak_known.proofs.Rounds.{passed-next, turn_low, turn-high, before-is, behind-is, on_none}
use Rattle.weak_known.proofs.Remembering.{put_then}
use Rattle.weak_known.proofs.remember.remember.Goals as goal

pub overflow_add-e : goal.overflow_add-e
overflow_add-e c =
    let more : c.loop-x.x-index < length c.args.ends.now = c.loop-x-test.true in
    let end_is : c.from-e.result + 1 ≡ get_or c.args.ends.now c.loop-x.x-index 0 + 1 = ap (λ (x : ℕ). x + 1) c.from-e.ensures in
    let high : c.from-e.result + 1 ≤ length c.args.touched.now = turn-high c.args.touched.now c.args.ends.now c.loop-x.s c.loop-x.x-index (c.from-e.result + 1) more end_is c.loop-x.invariant.0 in
    let h = high in let p = c.requires.before_len in omega arith

pub contour_write-requires : goal.contour_write-requires
contour_write-requires c =
    let more : c.loop-x.x-index < length c.args.ends.now = c.loop-x-test.true in
    let end_is : c.from-e.result + 1 ≡ get_or c.args.ends.now c.loop-x.x-index 0 + 1 = ap (λ (x : ℕ). x + 1) c.from-e.ensures in
    let low : c.loop-x.s < c.from-e.result + 1 = turn_low c.args.touched.now c.args.ends.now c.loop-x.s c.loop-x.x-index (c.from-e.result + 1) more end_is c.loop-x.invariant.0 in
    let high : c.from-e.result + 1 ≤ length c.args.touched.now = turn-high c.args.touched.now c.args.ends.now c.loop-x.s c.loop-x.x-index (c.from-e.result + 1) more end_is c.loop-x.invariant.0 in
    let h = high in
    let p = c.requires.before_len in
    let v = c.loop-x.invariant in
    (low, h, omega (arith, v.1.len), omega (arith, v.2.len), omega arith)

pub loop-x-preserved : goal.loop-x-preserved
loop-x-preserved c =
    let more : c.loop-x.x-index < length c.args.ends.now = c.loop-x-test.true in
    let end_is : c.from-e.result + 1 ≡ get_or c.args.ends.now c.loop-x.x-index 0 + 1 = ap (λ (x : ℕ). x + 1) c.from-e.ensures in
    let low : c.loop-x.s < c.from-e.result + 1 = turn_low c.args.touched.now c.args.ends.now c.loop-x.s c.loop-x.x-index (c.from-e.result + 1) more end_is c.loop-x.invariant.0 in
    let v = c.loop-x in
    let t = c.args.touched.now in
    let es = c.args.ends.now in (
      passed-next t es v.s v.x-index (c.from-e.result + 1) more end_is v.invariant.0,
      put_then _ _ _ _ _ _ _ _ (omega arith) (omega (arith, low)) v.invariant.1
          (before-is t es v.s v.x-index (c.from-e.result + 1) more end_is v.invariant.0) c.contour_write.ensures.0,
      put_then _ _ _ _ _ _ _ _ (omega arith) (omega (arith, low)) v.invariant.2
          (behind-is t es v.s v.x-index (c.from-e.result + 1) more end_is v.invariant.0) c.contour_write.ensures.1,
    )

pub plain_write-requires : goal.plain_write-requires
plain_write-requires c = let p = c.requires.before_len in
    let v = c.loop-x.invariant in
    (v.0.within, omega arith, omega (arith, v.1.len))

pub plain_write-requires-2 : goal.plain_write-requires-2
plain_write-requires-2 c = let p = c.requires.before_len in
    let v = c.loop-x.invariant in
    (v.0.within, omega arith, omega (arith, v.2.len))

pub returns : goal.returns
returns c = let v = c.loop-x in
    let t = c.args.touched.now in
    let es = c.args.ends.now in (
      put_then _ _ _ _ _ _ _ _ (omega arith) v.invariant.0.within v.invariant.1
          (λ i a b. plain-before t es i (on_none t es v.s v.x-index i v.invariant.0 c.loop-x-test.false a)) c.plain_write.ensures,
      put_then _ _ _ _ _ _ _ _ (omega arith) v.invariant.0.within v.invariant.2
          (λ i a b. plain-behind t es i (on_none t es v.s v.x-index i v.invariant.0 c.loop-x-test.false a)) c.plain_write-2.ensures,
    )
