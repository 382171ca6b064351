-- `link::thresholds::numbers_hold` meets its contract: by its two tests.
use mathlib.Core.Path.{sym, ◌∙◌}
use Rattle.signed.proofs.Signed.{is}
use Rattle.link.specs.Linking.{numbers_hold}
use Rattle.link.proofs.thresholds.numbers_hold.Goals as goal

pub returns-then-not-is_inside : goal.returns-then-not-is_inside
unfolding numbers_hold
returns-then-not-is_inside c =
    let start = c in
    rw (sym (rw (is start.ranges.units_per_em) at c.is_inside.ensures) ∙ c.if-not-is_inside.true)

pub returns : goal.returns
unfolding numbers_hold
returns c =
    let is-inside = c in
    let start = is-inside in
    rw (sym (rw (is start.ranges.units_per_em) at is-inside.is_inside.ensures) ∙ c.if-not-is_inside.false)
    (rw (is start.ranges.scale) at c.is_inside-2.ensures)
