-- `shown_picture::window::window_of` meets its contract.
use mathlib.Core.Path.{◌≡◌, ap, ◌∙◌}
use mathlib.Core.Bool.{true}
use mathlib.Core.List.{List}
use Prim.Native.Nat.{ℕ, ◌+◌, ◌<◌}
use native.Mathlib.Omega.{arith}
use lib.ListN.{length}
use lib.IntN.{ℤ}
use Rattle.weak.specs.Weak.{ends_hold}
use Rattle.path_trip.specs.Path.{points}
use Rattle.path_trip.specs.declared.tour.Spot.TheVariants.{Point}
use Rattle.shown.specs.Shown.{halves}
use Rattle.shown_lines.specs.declared.place.Halves.{Halves}
use Rattle.shown_lines.specs.Lines.{field_half}
use Rattle.shown_picture.specs.Window.{cell_of}
use Rattle.shown_picture.proofs.Ends.{last-inside, last-holds}
use Rattle.shown_picture.proofs.Windows.{cells-rise, bounds, bounds-none}
use Rattle.shown_picture.proofs.window.window_of.Goals as goal

pub returns-then-ends-eq0 : goal.returns-then-ends-eq0
returns-then-ends-eq0 c = bounds-none c.args.magnify (points c.args.xs.now c.args.ys.now c.args.marks.now) c.args.ends.now c.if-ends-eq0.true

pub overflow_add-count : goal.overflow_add-count
overflow_add-count c =
    let xs : List ℤ = c.args.xs.now in
    let inside : c.from-count.result < length xs = omega (arith, c.from-count.ensures, last-inside (length xs) c.args.ends.now c.requires.ends_value (omega arith)) in
    record { fits = omega (arith, inside, c.requires.admitted.few) }

pub extremes_of-across-requires : goal.extremes_of-across-requires
extremes_of-across-requires c =
    let xs : List ℤ = c.args.xs.now in
    let inside : c.from-count.result < length xs = omega (arith, c.from-count.ensures, last-inside (length xs) c.args.ends.now c.requires.ends_value (omega arith)) in
    (omega arith, omega (arith, inside))

pub point_place-leftmost-requires : goal.point_place-leftmost-requires
point_place-leftmost-requires c =
    let xs : List ℤ = c.args.xs.now in
    let inside : c.from-count.result < length xs = omega (arith, c.from-count.ensures, last-inside (length xs) c.args.ends.now c.requires.ends_value (omega arith)) in
    record {
      in_field = c.requires.in_field;
      i_in_bounds = (omega (arith, inside, c.extremes_of-across.ensures.least_in), c.requires.admitted.ys_length);
    }

pub point_place-rightmost-requires : goal.point_place-rightmost-requires
point_place-rightmost-requires c =
    let xs : List ℤ = c.args.xs.now in
    let inside : c.from-count.result < length xs = omega (arith, c.from-count.ensures, last-inside (length xs) c.args.ends.now c.requires.ends_value (omega arith)) in
    record {
      in_field = c.requires.in_field;
      i_in_bounds = (omega (arith, inside, c.extremes_of-across.ensures.largest_in), c.requires.admitted.ys_length);
    }

pub extremes_of-upward-requires : goal.extremes_of-upward-requires
extremes_of-upward-requires c =
    let xs : List ℤ = c.args.xs.now in
    let inside : c.from-count.result < length xs = omega (arith, c.from-count.ensures, last-inside (length xs) c.args.ends.now c.requires.ends_value (omega arith)) in
    (omega arith, omega (arith, inside, c.requires.admitted.ys_length))

pub point_place-lowest-requires : goal.point_place-lowest-requires
point_place-lowest-requires c =
    let xs : List ℤ = c.args.xs.now in
    let inside : c.from-count.result < length xs = omega (arith, c.from-count.ensures, last-inside (length xs) c.args.ends.now c.requires.ends_value (omega arith)) in
    record {
      in_field = c.requires.in_field;
      i_in_bounds = (omega (arith, inside, c.extremes_of-upward.ensures.least_in), c.requires.admitted.ys_length);
    }

pub point_place-highest-requires : goal.point_place-highest-requires
point_place-highest-requires c =
    let xs : List ℤ = c.args.xs.now in
    let inside : c.from-count.result < length xs = omega (arith, c.from-count.ensures, last-inside (length xs) c.args.ends.now c.requires.ends_value (omega arith)) in
    record {
      in_field = c.requires.in_field;
      i_in_bounds = (omega (arith, inside, c.extremes_of-upward.ensures.largest_in), c.requires.admitted.ys_length);
    }

pub overflow_sub-result : goal.overflow_sub-result
overflow_sub-result c =
    let f = c.requires.in_field in
    let left_is : c.cell_of-left.result ≡ cell_of (halves field_half c.args.magnify c.args.xs.now (Point c.extremes_of-across.result.least)) =
    c.cell_of-left.ensures ∙ ap (λ (z : Halves). cell_of z.x) c.point_place-leftmost.ensures.0 in
    let right_is : c.cell_of-right.result ≡ cell_of (halves field_half c.args.magnify c.args.xs.now (Point c.extremes_of-across.result.largest)) =
    c.cell_of-right.ensures ∙ ap (λ (z : Halves). cell_of z.x) c.point_place-rightmost.ensures.0 in
    omega (arith, left_is, right_is, cells-rise c.args.magnify c.args.xs.now f.some f.wide _ _ _ c.extremes_of-across.ensures)

pub overflow_sub-result-2 : goal.overflow_sub-result-2
overflow_sub-result-2 c =
    let f = c.requires.in_field in
    let low-is : c.cell_of-low.result ≡ cell_of (halves field_half c.args.magnify c.args.ys.now (Point c.extremes_of-upward.result.least)) =
    c.cell_of-low.ensures ∙ ap (λ (z : Halves). cell_of z.y) c.point_place-lowest.ensures.0 in
    let high_is : c.cell_of-high.result ≡ cell_of (halves field_half c.args.magnify c.args.ys.now (Point c.extremes_of-upward.result.largest)) =
    c.cell_of-high.ensures ∙ ap (λ (z : Halves). cell_of z.y) c.point_place-highest.ensures.0 in
    omega (arith, low-is, high_is, cells-rise c.args.magnify c.args.ys.now f.some f.high _ _ _ c.extremes_of-upward.ensures)

pub returns : goal.returns
returns c =
    let xs : List ℤ = c.args.xs.now in
    let ends : List ℕ = c.args.ends.now in
    let held : ends_hold 0 (c.from-count.result + 1) ends ≡ true = last-holds (length xs) ends c.requires.ends_value (omega arith) _ (ap (λ (n : ℕ). n + 1) c.from-count.ensures) in
    let left_is : c.cell_of-left.result ≡ cell_of (halves field_half c.args.magnify c.args.xs.now (Point c.extremes_of-across.result.least)) =
    c.cell_of-left.ensures ∙ ap (λ (z : Halves). cell_of z.x) c.point_place-leftmost.ensures.0 in
    let right_is : c.cell_of-right.result ≡ cell_of (halves field_half c.args.magnify c.args.xs.now (Point c.extremes_of-across.result.largest)) =
    c.cell_of-right.ensures ∙ ap (λ (z : Halves). cell_of z.x) c.point_place-rightmost.ensures.0 in
    let low-is : c.cell_of-low.result ≡ cell_of (halves field_half c.args.magnify c.args.ys.now (Point c.extremes_of-upward.result.least)) =
    c.cell_of-low.ensures ∙ ap (λ (z : Halves). cell_of z.y) c.point_place-lowest.ensures.0 in
    let high_is : c.cell_of-high.result ≡ cell_of (halves field_half c.args.magnify c.args.ys.now (Point c.extremes_of-upward.result.largest)) =
    c.cell_of-high.ensures ∙ ap (λ (z : Halves). cell_of z.y) c.point_place-highest.ensures.0 in
    bounds c.args.magnify (points xs c.args.ys.now c.args.marks.now) ends _ held c.requires.in_field _ _ _ _
    c.extremes_of-across.ensures c.extremes_of-upward.ensures left_is right_is low-is high_is
