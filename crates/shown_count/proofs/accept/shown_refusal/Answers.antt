-- `shown_count::accept::shown_refusal` meets its contract: the answers stand in their order.
use mathlib.Core.Path.{◌≡◌, sym, ap, ◌∙◌}
use mathlib.Core.Bool.{true}
use Prim.Native.Nat.{◌/◌, ◌<◌}
use native.Mathlib.Omega.{arith}
use borrow.Author.Tests.{eqb-true, eqb-false}
use lib.IntN.{ℤ, pos, nat_abs}
use mir.Syntax.{w32}
use mir.Val.{to_z, of_z}
use Rattle.signed.proofs.Signed.{is, got}
use Rattle.refusals.specs.Outcome.{number_of, answer_of}
use Rattle.refusals.specs.Refusal.{refusal}
use Rattle.refusals.proofs.Outcomes.{number-above, exit-answer, is-required}
use Rattle.axis.specs.Refusals.{inside}
use Rattle.weak_contour.specs.Limits.{most_coordinate}
use Rattle.weak.specs.Weak.{range_tests}
use Rattle.shown.specs.Field.{most_magnify}
use Rattle.shown_count.proofs.Accepting.{long-tested, required-no, refused-lists, refused-magnification, refused-ends, refused-else, range-magnified, times-some}
use Rattle.shown_count.proofs.accept.shown_refusal.Goals as goal

pub returns-then-eq : goal.returns-then-eq
returns-then-eq c =
    let long : answer_of c.list_refusal-lists.result ≡ 1 = eqb-true _ 1 (sym (c.eq.ensures ∙ long-tested _ c.list_refusal-lists.result) ∙ c.if-eq.true) in
    let a = c.args in
    long ∙ sym (refused-lists a.xs.now a.ys.now a.marks.now a.ends.now a.magnify c.list_refusal-lists.ensures long)

pub returns-in_err-require : goal.returns-in_err-require
returns-in_err-require c =
    let short : answer_of c.list_refusal-lists.result ≡ 1 → ⊥ = eqb-false _ 1 (sym (c.eq.ensures ∙ long-tested _ c.list_refusal-lists.result) ∙ c.if-eq.false) in
    let inside_is : c.is_inside.result ≡ inside (pos 1) (pos most_magnify) c.args.magnify = c.is_inside.ensures ∙ ap (inside (pos 1) (pos most_magnify)) (is c.ranges.magnify) in
    let fails = required-no _ _ _ c.in_err-require.ensures in
    let a = c.args in
    exit-answer _ _ c.from_residual.ensures.1 ∙ ap number_of fails.1
    ∙ sym (refused-magnification a.xs.now a.ys.now a.marks.now a.ends.now a.magnify c.list_refusal-lists.ensures short (sym inside_is ∙ fails.0))

pub returns-in_err-lists : goal.returns-in_err-lists
returns-in_err-lists c =
    let short : answer_of c.list_refusal-lists.result ≡ 1 → ⊥ = eqb-false _ 1 (sym (c.eq.ensures ∙ long-tested _ c.list_refusal-lists.result) ∙ c.if-eq.false) in
    let inside_is : c.is_inside.result ≡ inside (pos 1) (pos most_magnify) c.args.magnify = c.is_inside.ensures ∙ ap (inside (pos 1) (pos most_magnify)) (is c.ranges.magnify) in
    let passes : inside (pos 1) (pos most_magnify) c.args.magnify ≡ true = sym inside_is ∙ is-required _ _ _ c.in_ok-require.ensures in
    let told : answer_of c.list_refusal-lists.result ≡ number_of c.in_err-lists.field-0.0 = ap answer_of c.in_err-lists.was in
    let a = c.args in
    exit-answer _ _ c.from_residual-in_err-lists.ensures.1 ∙ sym told
    ∙ sym (refused-ends a.xs.now a.ys.now a.marks.now a.ends.now a.magnify c.list_refusal-lists.ensures short passes
    (omega (arith, told, number-above c.in_err-lists.field-0.0)))

pub returns : goal.returns
returns c =
    let short : answer_of c.list_refusal-lists.result ≡ 1 → ⊥ = eqb-false _ 1 (sym (c.eq.ensures ∙ long-tested _ c.list_refusal-lists.result) ∙ c.if-eq.false) in
    let inside_is : c.is_inside.result ≡ inside (pos 1) (pos most_magnify) c.args.magnify = c.is_inside.ensures ∙ ap (inside (pos 1) (pos most_magnify)) (is c.ranges.magnify) in
    let passes : inside (pos 1) (pos most_magnify) c.args.magnify ≡ true = sym inside_is ∙ is-required _ _ _ c.in_ok-require.ensures in
    let told : answer_of c.list_refusal-lists.result ≡ 0 = ap answer_of c.in_ok-lists.was in
    let times-is : c.times_of.result ≡ nat_abs c.args.magnify = c.times_of.ensures ∙ ap nat_abs (is c.ranges.magnify) in
    let some : 0 < c.times_of.result = omega (arith, times-is, times-some c.args.magnify passes) in
    let limit_is : to_z w32 (of_z w32 c.most_before.result) ≡ pos (most_coordinate / c.times_of.result) = is (got w32 c.most_before.result c.most_before.type_inv) ∙ c.most_before.ensures in
    let a = c.args in
    c.range_refusal.ensures
    ∙ ap (λ (z : ℤ). refusal (range_tests (nat_abs z) a.xs.now a.ys.now)) limit_is
    ∙ range-magnified a.magnify c.times_of.result times-is some a.xs.now a.ys.now
    ∙ sym (refused-else a.xs.now a.ys.now a.marks.now a.ends.now a.magnify c.list_refusal-lists.ensures short passes (omega (arith, told)))
