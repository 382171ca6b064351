-- `shown_count::count::count_shown` meets its contract.
use mathlib.Core.Path.{◌≡◌, sym, ap, subst, ◌∙◌}
use native.Mathlib.Omega.{arith}
use Prim.Native.Nat.{ℕ}
use lib.IntN.{ℤ, pos, nat_abs}
use lib.Signed.{◌<ℤ◌}
use mir.Syntax.{w32}
use Rattle.signed.proofs.Signed.{is, got}
use Rattle.refusals.specs.Outcome.{number_of}
use Rattle.refusals.specs.Refusal.{refusal}
use Rattle.refusals.proofs.Outcomes.{number-above, exit}
use Rattle.path_trip.specs.Path.{points}
use Rattle.shown_lines.specs.Lines.{InField}
use Rattle.shown_count.specs.Answer.{shown_of}
use Rattle.shown_count.specs.Count.{shown_tests}
use Rattle.shown_count.proofs.Accepting.{Passed}
use Rattle.shown_count.proofs.Handing.{counts-small, refused, accepted, counted}
use Rattle.shown_count.proofs.count.count_shown.Goals as goal

pub returns-in_err-shown_refusal : goal.returns-in_err-shown_refusal
returns-in_err-shown_refusal c =
    let a = c.args in
    let refusal_is : number_of c.in_err-shown_refusal.field-0.0 ≡ refusal (shown_tests c.args.xs.now c.args.ys.now c.args.marks.now c.args.ends.now c.args.magnify) =
    c.in_err-shown_refusal.ensures ∙ ap (λ (z : ℤ). refusal (shown_tests c.args.xs.now c.args.ys.now c.args.marks.now c.args.ends.now z)) (is c.ranges.magnify) in
    ap shown_of (exit _ _ c.from_residual.ensures.1) ∙ refused a.xs.now a.ys.now a.marks.now a.ends.now a.magnify refusal_is (number-above _)

pub times_of-requires : goal.times_of-requires
times_of-requires c =
    let refusal_is : 0 ≡ refusal (shown_tests c.args.xs.now c.args.ys.now c.args.marks.now c.args.ends.now c.args.magnify) =
    c.in_ok-shown_refusal.ensures ∙ ap (λ (z : ℤ). refusal (shown_tests c.args.xs.now c.args.ys.now c.args.marks.now c.args.ends.now z)) (is c.ranges.magnify) in
    let passes : let a = c.args in Passed a.xs.now a.ys.now a.marks.now a.ends.now a.magnify = let a = c.args in accepted a.xs.now a.ys.now a.marks.now a.ends.now a.magnify refusal_is (omega arith) in
    subst (λ (z : ℤ). pos 0 <ℤ z) (sym (is c.ranges.magnify)) passes.some

pub count_picture-counts-requires : goal.count_picture-counts-requires
count_picture-counts-requires c =
    let refusal_is : 0 ≡ refusal (shown_tests c.args.xs.now c.args.ys.now c.args.marks.now c.args.ends.now c.args.magnify) =
    c.in_ok-shown_refusal.ensures ∙ ap (λ (z : ℤ). refusal (shown_tests c.args.xs.now c.args.ys.now c.args.marks.now c.args.ends.now z)) (is c.ranges.magnify) in
    let passes : let a = c.args in Passed a.xs.now a.ys.now a.marks.now a.ends.now a.magnify = let a = c.args in accepted a.xs.now a.ys.now a.marks.now a.ends.now a.magnify refusal_is (omega arith) in
    let times-is : c.times_of.result ≡ nat_abs c.args.magnify = c.times_of.ensures ∙ ap nat_abs (is c.ranges.magnify) in
    let a = c.args in
    record {
      admitted = passes.admitted;
      ends_value = passes.ends;
      in_field = subst (λ (t : ℕ). InField (points a.xs.now a.ys.now a.marks.now) t) (sym times-is) passes.field;
    }

pub euler_of-euler-requires : goal.euler_of-euler-requires
euler_of-euler-requires c = let n = counts-small _ c.count_picture-counts.ensures in (n.outers, n.inners)

pub returns : goal.returns
returns c =
    let refusal_is : 0 ≡ refusal (shown_tests c.args.xs.now c.args.ys.now c.args.marks.now c.args.ends.now c.args.magnify) =
    c.in_ok-shown_refusal.ensures ∙ ap (λ (z : ℤ). refusal (shown_tests c.args.xs.now c.args.ys.now c.args.marks.now c.args.ends.now z)) (is c.ranges.magnify) in
    let times-is : c.times_of.result ≡ nat_abs c.args.magnify = c.times_of.ensures ∙ ap nat_abs (is c.ranges.magnify) in
    let a = c.args in
    counted a.xs.now a.ys.now a.marks.now a.ends.now a.magnify refusal_is (omega arith) times-is
    c.count_picture-counts.ensures
    (is (got w32 c.euler_of-euler.result c.euler_of-euler.type_inv) ∙ c.euler_of-euler.ensures)
