-- `shown_lines::place::magnified` meets its contract.
use mathlib.Core.Path.{◌≡◌, sym, ap, ◌∙◌, subst}
use Prim.Native.Nat.{ℕ, ◌*◌, ◌≤◌, ◌<◌}
use native.Mathlib.Omega.{arith}
use lib.Dec.{T}
use lib.IntN.{ℤ, pos, nat_abs, ◌+ℤ◌, ◌*ℤ◌}
use lib.Signed.{non_neg}
use mir.Syntax.{w32}
use mir.Val.{SFits, Fits, to_z, of_z}
use Rattle.signed.proofs.Signed.{is, to-sfits}
use Rattle.shown_lines.specs.Lines.{most_halves, most_magnify}
use Rattle.weak_contour.specs.Limits.{most_coordinate}
use Rattle.shown_lines.proofs.Fields.{sum_fits, product-fits, whole, whole-fits, whole-unsigned, whole-less}
use Rattle.shown_lines.proofs.place.magnified.Goals as goal

-- ---- the code's numbers are the plain ones
module _ (m : ℕ) (a b : ℤ) (some : 0 < m) (most : m ≤ most_magnify) (p : m * nat_abs a ≤ most_coordinate) (q : m * nat_abs b ≤ most_coordinate) (f : SFits w32 a) (g : SFits w32 b) where
  abbrev sum : ℤ
  sum = to_z w32 (of_z w32 a) +ℤ to_z w32 (of_z w32 b)

  plain-sum : sum ≡ a +ℤ b
  plain-sum = λ i. is f i +ℤ is g i

  fits-sum : SFits w32 sum
  fits-sum = subst (SFits w32) (sym plain-sum) (sum_fits m a b some p q)

  fits-factor : SFits w32 (pos m)
  fits-factor = to-sfits w32 (pos m) (omega arith, omega arith)

  abbrev product : ℤ
  product = to_z w32 (of_z w32 (pos m)) *ℤ to_z w32 (of_z w32 sum)

  plain-product : product ≡ pos m *ℤ (a +ℤ b)
  plain-product = λ i. is fits-factor i *ℤ (is fits-sum ∙ plain-sum) i

  fits-product : SFits w32 product
  fits-product = subst (SFits w32) (sym plain-product) (product-fits m a b some p q)

  abbrev code : ℤ
  code = to_z w32 (of_z w32 product) +ℤ pos 131072

  plain-whole : code ≡ whole m a b some p q
  plain-whole = ap (λ (z : ℤ). z +ℤ pos 131072) (is fits-product ∙ plain-product)

  fits-whole : SFits w32 code
  fits-whole = subst (SFits w32) (sym plain-whole) (whole-fits m a b some p q)

  back-whole : to_z w32 (of_z w32 code) ≡ whole m a b some p q
  back-whole = is fits-whole ∙ plain-whole

pub overflow_add-result : goal.overflow_add-result
overflow_add-result c = fits-sum c.args.magnify c.args.x c.args.u c.requires.0 c.requires.1 c.requires.2 c.requires.3 c.ranges.x c.ranges.u

pub overflow_mul-result : goal.overflow_mul-result
overflow_mul-result c = fits-product c.args.magnify c.args.x c.args.u c.requires.0 c.requires.1 c.requires.2 c.requires.3 c.ranges.x c.ranges.u

pub overflow_add-result-2 : goal.overflow_add-result-2
overflow_add-result-2 c = fits-whole c.args.magnify c.args.x c.args.u c.requires.0 c.requires.1 c.requires.2 c.requires.3 c.ranges.x c.ranges.u

pub overflow_cast-result : goal.overflow_cast-result
overflow_cast-result c = subst (λ (z : ℤ). T (non_neg z) × Fits w32 (nat_abs z)) (sym (back-whole c.args.magnify c.args.x c.args.u c.requires.0 c.requires.1 c.requires.2 c.requires.3 c.ranges.x c.ranges.u))
    (whole-unsigned c.args.magnify c.args.x c.args.u c.requires.0 c.requires.2 c.requires.3)

pub returns : goal.returns
returns c = let e = back-whole c.args.magnify c.args.x c.args.u c.requires.0 c.requires.1 c.requires.2 c.requires.3 c.ranges.x c.ranges.u in (
  ap nat_abs e,
  subst (λ (z : ℤ). nat_abs z < most_halves) (sym e) (whole-less c.args.magnify c.args.x c.args.u c.requires.0 c.requires.2 c.requires.3),
)
