-- `build::numbers::numbers_hold` meets its contract: by its four tests.
use borrow.Author.Rules.{rules}
use borrow.Author.Tests.{not-true, not-false}
use mathlib.Core.Path.{◌≡◌, sym, ◌∙◌}
use lib.IntN.{pos}
use mir.Syntax.{w32}
use Rattle.signed.proofs.Signed.{is}
use Rattle.axis.specs.Limits.{most_score, least_scale, most_scale}
use Rattle.axis.specs.Refusals.{inside}
use Rattle.build.specs.Building.{numbers_hold}
use Rattle.signed.proofs.Reading.{back}
use Rattle.build.proofs.numbers.numbers_hold.Goals as goal

pub returns-then-not-is_inside : goal.returns-then-not-is_inside
unfolding numbers_hold
returns-then-not-is_inside c =
    let s : c.is_inside.result ≡ inside (pos least_scale) (pos most_scale) c.args.scale = rw (is c.ranges.scale) at c.is_inside.ensures in
    rw (sym s ∙ c.if-not-is_inside.true)

pub returns-then-not-is_inside-2 : goal.returns-then-not-is_inside-2
unfolding numbers_hold
returns-then-not-is_inside-2 c =
    let s : c.is_inside.result ≡ inside (pos least_scale) (pos most_scale) c.args.scale = rw (is c.ranges.scale) at c.is_inside.ensures in
    let d : c.is_inside-2.result ≡ inside (pos 0) (pos most_score) c.args.thresholds.distance =
    rw (back w32 c.args.thresholds.distance c.struct_told-1.given.0.1) at c.is_inside-2.ensures in
    rw (sym s ∙ c.if-not-is_inside.false, sym d ∙ c.if-not-is_inside-2.true)

pub returns-then-not-is_inside-3 : goal.returns-then-not-is_inside-3
unfolding numbers_hold
returns-then-not-is_inside-3 c =
    let s : c.is_inside.result ≡ inside (pos least_scale) (pos most_scale) c.args.scale = rw (is c.ranges.scale) at c.is_inside.ensures in
    let d : c.is_inside-2.result ≡ inside (pos 0) (pos most_score) c.args.thresholds.distance =
    rw (back w32 c.args.thresholds.distance c.struct_told-1.given.0.1) at c.is_inside-2.ensures in
    let n : c.is_inside-3.result ≡ inside (pos 0) (pos most_score) c.args.thresholds.length =
    rw (back w32 c.args.thresholds.length c.struct_told-2-1.given.1.0.1) at c.is_inside-3.ensures in
    rw (sym s ∙ c.if-not-is_inside.false, sym d ∙ c.if-not-is_inside-2.false, sym n ∙ c.if-not-is_inside-3.true)

pub returns : goal.returns
unfolding numbers_hold
returns c =
    let s : c.is_inside.result ≡ inside (pos least_scale) (pos most_scale) c.args.scale = rw (is c.ranges.scale) at c.is_inside.ensures in
    let d : c.is_inside-2.result ≡ inside (pos 0) (pos most_score) c.args.thresholds.distance =
    rw (back w32 c.args.thresholds.distance c.struct_told-1.given.0.1) at c.is_inside-2.ensures in
    let n : c.is_inside-3.result ≡ inside (pos 0) (pos most_score) c.args.thresholds.length =
    rw (back w32 c.args.thresholds.length c.struct_told-2-1.given.1.0.1) at c.is_inside-3.ensures in
    rw (sym s ∙ c.if-not-is_inside.false, sym d ∙ c.if-not-is_inside-2.false, sym n ∙ c.if-not-is_inside-3.false)
    (rw (back w32 c.args.thresholds.width c.struct_told-3-1.given.1.1.0.1) at c.is_inside-4.ensures)
