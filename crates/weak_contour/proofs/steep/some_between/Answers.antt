-- `weak_contour::steep::some_between` meets its contract. The invariant: no original passed lies between.
use native.Mathlib.Omega.{arith}
use mathlib.Core.Path.{◌≡◌, sym, ap, ◌∙◌}
use Prim.Native.Nat.{ℕ}
use lib.IntN.{ℤ}
use mir.Syntax.{w32}
use mir.Val.{to_z, of_z}
use Rattle.signed.proofs.Signed.{is, got}
use Rattle.weak_contour.specs.Contour.{at}
use Rattle.weak_contour.specs.Steps.{is_between, between_originals}
use Rattle.weak_contour.proofs.Steepness.{found, missed, none_more}
use Rattle.weak_contour.proofs.steep.some_between.Goals as goal

pub returns-then-is_between : goal.returns-then-is_between
unfolding between_originals
returns-then-is_between c =
    let told : c.is_between.result
    ≡ between_originals c.args.originals.now (to_z w32 (of_z w32 c.args.v1))
    (to_z w32 (of_z w32 c.args.v2)) c.loop-i.i = c.is_between.ensures
    ∙ ap (λ (z : ℤ). is_between z (to_z w32 (of_z w32 c.args.v1)) (to_z w32 (of_z w32 c.args.v2)))
    (is (got w32 (at c.args.originals.now c.loop-i.i) c.is_between-arg-1.given)) in
    let passed : (i : ℕ)
    → between_originals c.args.originals.now (to_z w32 (of_z w32 c.args.v1)) (to_z w32 (of_z w32 c.args.v2)) i
    ≡ between_originals c.args.originals.now c.args.v1 c.args.v2 i = λ i. λ k. between_originals c.args.originals.now (is c.ranges.v1 k) (is c.ranges.v2 k) i in
    found _ _ _ c.loop-i.i (omega arith) (omega arith) (sym (passed c.loop-i.i) ∙ sym told ∙ c.if-is_between.true)

pub loop-i-preserved : goal.loop-i-preserved
unfolding between_originals
loop-i-preserved c =
    let told : c.is_between.result
    ≡ between_originals c.args.originals.now (to_z w32 (of_z w32 c.args.v1))
    (to_z w32 (of_z w32 c.args.v2)) c.loop-i.i = c.is_between.ensures
    ∙ ap (λ (z : ℤ). is_between z (to_z w32 (of_z w32 c.args.v1)) (to_z w32 (of_z w32 c.args.v2)))
    (is (got w32 (at c.args.originals.now c.loop-i.i) c.is_between-arg-1.given)) in
    none_more _ _ _ c.loop-i.invariant (sym told ∙ c.if-is_between.false)

pub returns : goal.returns
returns c =
    let passed : (i : ℕ)
    → between_originals c.args.originals.now (to_z w32 (of_z w32 c.args.v1)) (to_z w32 (of_z w32 c.args.v2)) i
    ≡ between_originals c.args.originals.now c.args.v1 c.args.v2 i = λ i. λ k. between_originals c.args.originals.now (is c.ranges.v1 k) (is c.ranges.v2 k) i in
    missed _ _ _ (λ i a h. sym (passed i) ∙ c.loop-i.invariant i a (omega arith))
