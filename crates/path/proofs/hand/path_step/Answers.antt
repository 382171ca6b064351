-- `path::hand::path_step` meets its contract.
use mathlib.Core.Path.{◌≡◌, sym, ap, ◌∙◌}
use native.Mathlib.Omega.{arith}
use Rattle.refusals.specs.Refusal.{refusal}
use Rattle.path_trip.specs.Path.{points, Points, path}
use Rattle.path_walk.specs.Steps.{seek}
use Rattle.path_walk.proofs.Lengths.{whole-short}
use Rattle.path_walk.proofs.Seeks.{in-here}
use Rattle.refusals.proofs.Outcomes.{number-above, exit}
use Rattle.path.specs.Answer.{handed_of}
use Rattle.path.specs.Handing.{path_tests}
use Rattle.path.proofs.Named.{accepted, handed-refused, handed-named, named_here, named_past}
use Rattle.path.proofs.hand.path_step.Goals as goal

pub returns-in_err-path_refusal : goal.returns-in_err-path_refusal
returns-in_err-path_refusal c =
    ap handed_of (exit _ _ c.from_residual.ensures.1)
    ∙ handed-refused c.args.xs.now c.args.ys.now c.args.marks.now c.args.ends.now c.args.cursor.at _ c.in_err-path_refusal.ensures (number-above _)

pub path_at-sought-requires : goal.path_at-sought-requires
path_at-sought-requires c =
    let taken : refusal (path_tests c.args.xs.now c.args.ys.now c.args.marks.now c.args.ends.now) ≡ 0 = sym c.in_ok-path_refusal.ensures in
    let a = accepted c.args.xs.now c.args.ys.now c.args.marks.now c.args.ends.now taken in
    record { admitted = a.0; ends_value = a.1 }

pub returns-in_default : goal.returns-in_default
returns-in_default c =
    let outline : Points = points c.args.xs.now c.args.ys.now c.args.marks.now in
    let found : c.path_at-sought.result ≡ seek (path outline c.args.ends.now) c.args.cursor.at = c.path_at-sought.ensures ∙ ap (seek (path outline c.args.ends.now)) c.number_of.ensures in
    handed-named c.args.xs.now c.args.ys.now c.args.marks.now c.args.ends.now c.args.cursor.at _ c.in_ok-path_refusal.ensures (omega arith) _
    (named_past _ _ _ (sym found ∙ c.in_default.is))

pub overflow_add-result : goal.overflow_add-result
overflow_add-result c =
    let outline : Points = points c.args.xs.now c.args.ys.now c.args.marks.now in
    let taken : refusal (path_tests c.args.xs.now c.args.ys.now c.args.marks.now c.args.ends.now) ≡ 0 = sym c.in_ok-path_refusal.ensures in
    let found : c.path_at-sought.result ≡ seek (path outline c.args.ends.now) c.args.cursor.at = c.path_at-sought.ensures ∙ ap (seek (path outline c.args.ends.now)) c.number_of.ensures in
    let a = accepted c.args.xs.now c.args.ys.now c.args.marks.now c.args.ends.now taken in
    omega (arith, (in-here _ _ _ (sym found ∙ c.in-Ok.is)).0, whole-short outline c.args.ends.now a.0 a.1)

pub returns : goal.returns
returns c =
    let outline : Points = points c.args.xs.now c.args.ys.now c.args.marks.now in
    let found : c.path_at-sought.result ≡ seek (path outline c.args.ends.now) c.args.cursor.at = c.path_at-sought.ensures ∙ ap (seek (path outline c.args.ends.now)) c.number_of.ensures in
    handed-named c.args.xs.now c.args.ys.now c.args.marks.now c.args.ends.now c.args.cursor.at _ c.in_ok-path_refusal.ensures (omega arith) _
    (named_here _ _ _ (sym found ∙ c.in-Ok.is))
