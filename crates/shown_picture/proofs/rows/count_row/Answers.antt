-- `shown_picture::rows::count_row` meets its contract.
use mathlib.Core.Path.{◌∙◌}
use Rattle.path_trip.specs.Path.{points}
use Rattle.shown_picture.proofs.Reading.{row_read}
use Rattle.shown_picture.proofs.rows.count_row.Goals as goal

pub returns : goal.returns
returns c = let a = c.args in (
  row_read a.magnify (points a.xs.now a.ys.now a.marks.now) a.ends.now c.requires.admitted.few c.requires.ends_value a.left a.row _ _ _
      c.clear.ensures c.cross_outline.ensures c.close_row.ensures,
  c.cross_outline.ensures.as_long ∙ c.clear.ensures.as_long,
)
