-- `shown_picture::picture::count_picture` meets its contract.
use Prim.Native.Nat.{◌+◌, ◌≤◌}
use native.Mathlib.Omega.{arith}
use Rattle.path_trip.specs.Path.{points}
use Rattle.shown_rows.specs.Turns.{most_columns}
use Rattle.shown_picture.specs.Window.{picture}
use Rattle.shown_picture.proofs.Clearing.{zeros-long, zeros-white}
use Rattle.shown_picture.proofs.Reading.{picture-counted}
use Rattle.shown_picture.proofs.picture.count_picture.Goals as goal

pub count_rows-requires : goal.count_rows-requires
count_rows-requires c = let n = c.window_of-window.result.columns + 1 in
    let h : n ≤ most_columns = omega (arith, c.window_of-window.ensures.wide) in
    record {
      admitted = c.requires.admitted;
      ends_value = c.requires.ends_value;
      in_field = c.requires.in_field;
      bounds = c.window_of-window.ensures;
      below_len = (zeros-long n h, zeros-long n h, zeros-white n);
    }

pub returns : goal.returns
returns c = let a = c.args in
    picture-counted (picture a.magnify (points a.xs.now a.ys.now a.marks.now) a.ends.now) c.window_of-window.result c.window_of-window.ensures
    c.count_rows.ensures
