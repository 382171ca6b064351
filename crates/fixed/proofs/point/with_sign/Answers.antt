-- `fixed::point::with_sign` meets its contract: by its two tests.
use native.Mathlib.Omega.{arith}
use mathlib.Core.Path.{◌≡◌, ap, ◌∙◌}
use mathlib.Core.Bool.{Bool}
use lib.IntN.{ℤ, pos, neg_ℤ, ◌-ℤ◌, +ℤ_idl}
use lib.Signed.{lt_z}
use mir.Syntax.{w64}
use mir.Val.{to_z, of_z}
use Rattle.signed.proofs.Signed.{signed, fits, is}
use Rattle.signed.proofs.Reading.{lt-was}
use Rattle.fixed.specs.Steps.{signed_like}
use Rattle.fixed.proofs.point.with_sign.Goals as goal
use Rattle.fixed.proofs.point.with_sign.Goals.{Start}

-- 0 less a number
less : {x y : ℤ} → x ≡ y → pos 0 -ℤ x ≡ neg_ℤ y
less {x} {y} e = ap (λ (z : ℤ). pos 0 -ℤ z) e ∙ +ℤ_idl (neg_ℤ y)

pub overflow_cast-plain : goal.overflow_cast-plain
overflow_cast-plain c = fits (omega (arith, c.requires))

-- the magnitude as the machine reads it
plain : (c : Start) → to_z w64 (of_z w64 (pos c.args.size)) ≡ pos c.args.size
plain c = is (overflow_cast-plain c)

-- what the tests of the two showed
a_test : (c : Start) {t : Bool} → lt_z (to_z w64 (of_z w64 c.args.a)) (to_z w64 (of_z w64 (pos 0))) ≡ t → lt_z c.args.a (pos 0) ≡ t
a_test c e = lt-was w64 c.args.a (pos 0) c.ranges.a.sfits (omega arith) e

b-test : (c : Start) {t : Bool} → lt_z (to_z w64 (of_z w64 c.args.b)) (to_z w64 (of_z w64 (pos 0))) ≡ t → lt_z c.args.b (pos 0) ≡ t
b-test c e = lt-was w64 c.args.b (pos 0) c.ranges.b.sfits (omega arith) e

pub returns-then-b-lt0 : goal.returns-then-b-lt0
unfolding signed_like
returns-then-b-lt0 c = let s = c.before.before in rw (a_test s c.if-a-lt0.true, b-test s c.if-b-lt0.true) (plain s)

pub overflow_sub-result : goal.overflow_sub-result
overflow_sub-result c = let h = overflow_cast-plain c.before.before in fits (omega (arith, signed))

pub returns-then-a-lt0 : goal.returns-then-a-lt0
unfolding signed_like
returns-then-a-lt0 c = let s = c.before.before in rw (a_test s c.if-a-lt0.true, b-test s c.if-b-lt0.false) (is (overflow_sub-result c) ∙ less (plain s))

pub overflow_sub-result-then-b-lt0-2 : goal.overflow_sub-result-then-b-lt0-2
overflow_sub-result-then-b-lt0-2 c = let h = overflow_cast-plain c.before.before in fits (omega (arith, signed))

pub returns-then-b-lt0-2 : goal.returns-then-b-lt0-2
unfolding signed_like
returns-then-b-lt0-2 c = let s = c.before.before in rw (a_test s c.if-a-lt0.false, b-test s c.if-b-lt0-2.true) (is (overflow_sub-result-then-b-lt0-2 c) ∙ less (plain s))

pub returns : goal.returns
unfolding signed_like
returns c = let s = c.before.before in rw (a_test s c.if-a-lt0.false, b-test s c.if-b-lt0-2.false) (plain s)
