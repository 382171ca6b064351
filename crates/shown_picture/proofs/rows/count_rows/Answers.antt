-- `shown_picture::rows::count_rows` meets its contract. The invariant: the rows passed are counted, and the last of them is the row below.
use mathlib.Core.Path.{◌≡◌, refl, subst, ◌∙◌}
use mathlib.Core.Bool.{Bool}
use Prim.Native.Nat.{ℕ, ◌+◌}
use native.Mathlib.Omega.{arith}
use Rattle.path_trip.specs.Path.{points}
use Rattle.shown_rows.specs.Rows.{black_at}
use Rattle.shown_picture.specs.Window.{picture}
use Rattle.shown_picture.specs.Rows.{RowRead, shifted}
use Rattle.shown_picture.proofs.Reading.{white-read, lower-none, rows_none, lower-more, rows_more, rows-read, row_small, rows-small}
use Rattle.shown_picture.proofs.rows.count_rows.Goals as goal

pub loop-j-init : goal.loop-j-init
loop-j-init c =
    let from : ℕ → ℕ → Bool = let a = c.args in shifted (picture a.magnify (points a.xs.now a.ys.now a.marks.now) a.ends.now) a.window.left a.window.low in
    let places : ℕ = c.args.window.columns + 1 in (
      c.requires.below_len.0,
      c.requires.below_len.1,
      lower-none from places c.args.below.now c.requires.below_len.2,
      rows_none
          from places,
    )

pub plus-counts-requires : goal.plus-counts-requires
plus-counts-requires c =
    let from : ℕ → ℕ → Bool = let a = c.args in shifted (picture a.magnify (points a.xs.now a.ys.now a.marks.now) a.ends.now) a.window.left a.window.low in
    let places : ℕ = c.args.window.columns + 1 in
    let counted : RowRead (λ i. from i c.loop-j.j) c.loop-j.below places c.count_row-row.result
    c.count_row-row.new.below = subst (λ (n : ℕ). RowRead (λ i. from i c.loop-j.j) c.loop-j.below n c.count_row-row.result c.count_row-row.new.below)
    c.loop-j.invariant.1 c.count_row-row.ensures.0 in (
      rows-small places (omega (arith, c.requires.bounds.wide)) from c.loop-j.j (omega (arith, c.requires.bounds.high)) c.loop-j.invariant.3,
      row_small places (omega (arith, c.requires.bounds.wide)) (black_at c.loop-j.below) (λ i. from i c.loop-j.j) counted.counts,
    )

pub loop-j-preserved : goal.loop-j-preserved
loop-j-preserved c =
    let from : ℕ → ℕ → Bool = let a = c.args in shifted (picture a.magnify (points a.xs.now a.ys.now a.marks.now) a.ends.now) a.window.left a.window.low in
    let places : ℕ = c.args.window.columns + 1 in
    let counted : RowRead (λ i. from i c.loop-j.j) c.loop-j.below places c.count_row-row.result
    c.count_row-row.new.below = subst (λ (n : ℕ). RowRead (λ i. from i c.loop-j.j) c.loop-j.below n c.count_row-row.result c.count_row-row.new.below)
    c.loop-j.invariant.1 c.count_row-row.ensures.0 in
    let v = c.loop-j.invariant in
    let d = counted in (
      d.as_long ∙ v.0,
      c.count_row-row.ensures.1 ∙ v.1,
      lower-more from places c.loop-j.j _ (λ i. refl) d,
      rows_more from places c.loop-j.j _ (λ i. refl) d v.2 v.3 c.plus-counts.ensures,
    )

pub plus-requires : goal.plus-requires
plus-requires c =
    let from : ℕ → ℕ → Bool = let a = c.args in shifted (picture a.magnify (points a.xs.now a.ys.now a.marks.now) a.ends.now) a.window.left a.window.low in
    let places : ℕ = c.args.window.columns + 1 in
    let passed : c.loop-j.j ≡ c.args.window.rows = omega (arith, c.loop-j-test.false) in
    let topmost : RowRead (λ i. from i c.loop-j.j) c.loop-j.below places c.close_row-top.result
    c.close_row-top.new.below = let e = c.clear.ensures in
    subst (λ (n : ℕ). RowRead (λ i. from i c.loop-j.j) c.loop-j.below n c.close_row-top.result c.close_row-top.new.below) c.loop-j.invariant.1
    (white-read (λ i. from i c.loop-j.j) (λ i. c.requires.bounds.white.above (c.args.window.left + i) (c.args.window.low + c.loop-j.j)
    (omega (arith, passed))) e c.close_row-top.ensures) in (
      rows-small places (omega (arith, c.requires.bounds.wide)) from c.loop-j.j (omega (arith, c.requires.bounds.high)) c.loop-j.invariant.3,
      row_small places (omega (arith, c.requires.bounds.wide)) (black_at c.loop-j.below) (λ i. from i c.loop-j.j) topmost.counts,
    )

pub returns : goal.returns
returns c =
    let from : ℕ → ℕ → Bool = let a = c.args in shifted (picture a.magnify (points a.xs.now a.ys.now a.marks.now) a.ends.now) a.window.left a.window.low in
    let places : ℕ = c.args.window.columns + 1 in
    let passed : c.loop-j.j ≡ c.args.window.rows = omega (arith, c.loop-j-test.false) in
    let topmost : RowRead (λ i. from i c.loop-j.j) c.loop-j.below places c.close_row-top.result
    c.close_row-top.new.below = let e = c.clear.ensures in
    subst (λ (n : ℕ). RowRead (λ i. from i c.loop-j.j) c.loop-j.below n c.close_row-top.result c.close_row-top.new.below) c.loop-j.invariant.1
    (white-read (λ i. from i c.loop-j.j) (λ i. c.requires.bounds.white.above (c.args.window.left + i) (c.args.window.low + c.loop-j.j)
    (omega (arith, passed))) e c.close_row-top.ensures) in
    let v = c.loop-j.invariant in
    rows-read _ c.args.window passed (rows_more from places c.loop-j.j _ (λ i. refl) topmost v.2 v.3 c.plus.ensures)
