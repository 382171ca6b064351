-- `link_words::lend::lend_linking` meets its contract.
use mathlib.Core.Path.{ap, ◌∙◌}
use native.Mathlib.Omega.{arith}
use Rattle.refusals.proofs.Outcomes.{number-above, exit-answer}
use Rattle.signed.proofs.By.{by₂}
use Rattle.signed.proofs.Signed.{is}
use Rattle.link.specs.Linking.{thresholds_of, numbers_hold}
use Rattle.words.specs.Field.{direction_of}
use Rattle.words_shape.specs.Shape.{is_in, direction}
use Rattle.link_words.proofs.Lending.{own-is, linking-ready, linking-len, linking-refused, linking-done}
use Rattle.link_words.proofs.lend.lend_linking.Goals as goal

pub returns-in_err-segments_test : goal.returns-in_err-segments_test
returns-in_err-segments_test c =
    let numbers = by₂ numbers_hold c.numbers_hold.ensures (is c.ranges.units_per_em) (is c.ranges.scale) in
    let direction-is = c.is_in.ensures ∙ ap (is_in direction) (is c.ranges.major_dir) in
    rw (exit-answer _ _ c.from_residual.ensures.1)
    (linking-refused c.args.segments.now c.args.major_dir c.args.units_per_em c.args.scale numbers (own-is _ _ c.require-own.ensures) direction-is
    c.in_err-segments_test.ensures (number-above _))

pub thresholds_of-thresholds-requires : goal.thresholds_of-thresholds-requires
thresholds_of-thresholds-requires c =
    let numbers = by₂ numbers_hold c.numbers_hold.ensures (is c.ranges.units_per_em) (is c.ranges.scale) in
    let direction-is = c.is_in.ensures ∙ ap (is_in direction) (is c.ranges.major_dir) in
    rw (is c.ranges.units_per_em, is c.ranges.scale)
    (linking-ready c.args.segments.now c.args.major_dir c.args.units_per_em c.args.scale numbers (own-is _ _ c.require-own.ensures) direction-is
    c.in_ok-segments_test.ensures (omega arith)).numbers

pub link_in-requires : goal.link_in-requires
link_in-requires c =
    let numbers = by₂ numbers_hold c.numbers_hold.ensures (is c.ranges.units_per_em) (is c.ranges.scale) in
    let direction-is = c.is_in.ensures ∙ ap (is_in direction) (is c.ranges.major_dir) in
    let thresholds = by₂ thresholds_of c.thresholds_of-thresholds.ensures (is c.ranges.units_per_em) (is c.ranges.scale) in (
      (linking-ready c.args.segments.now c.args.major_dir c.args.units_per_em c.args.scale numbers (own-is _ _ c.require-own.ensures) direction-is
          c.in_ok-segments_test.ensures (omega arith)).sound,
      linking-len c.args.segments.now c.args.major_dir c.args.units_per_em c.args.scale numbers (own-is _ _ c.require-own.ensures) direction-is
          c.in_ok-segments_test.ensures (omega arith) _ thresholds,
    )

pub returns : goal.returns
returns c =
    let numbers = by₂ numbers_hold c.numbers_hold.ensures (is c.ranges.units_per_em) (is c.ranges.scale) in
    let direction-is = c.is_in.ensures ∙ ap (is_in direction) (is c.ranges.major_dir) in
    let thresholds = by₂ thresholds_of c.thresholds_of-thresholds.ensures (is c.ranges.units_per_em) (is c.ranges.scale) in
    linking-done c.args.segments.now c.args.major_dir c.args.units_per_em c.args.scale numbers (own-is _ _ c.require-own.ensures) direction-is
    c.in_ok-segments_test.ensures (omega arith) _
    (c.direction_of.ensures ∙ ap direction_of (is c.ranges.major_dir)) thresholds c.link_in.ensures
