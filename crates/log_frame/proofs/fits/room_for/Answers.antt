-- `log_frame::fits::room_for` meets its contract.
use native.Mathlib.Omega.{arith}
use Rattle.log_frame.proofs.Tested.{room-points, room-contours, room-digits}
use Rattle.log_frame.proofs.fits.room_for.Goals as goal

pub returns-then-points-gt-MOST_COUNTED : goal.returns-then-points-gt-MOST_COUNTED
returns-then-points-gt-MOST_COUNTED c = room-points _ _ _ (omega arith)

pub returns-then-contours-gt-MOST_COUNTED : goal.returns-then-contours-gt-MOST_COUNTED
returns-then-contours-gt-MOST_COUNTED c = room-contours _ _ _ (omega arith) (omega arith)

pub returns : goal.returns
returns c = room-digits _ _ _ (omega arith) (omega arith) c.frame_size.result c.frame_size.ensures
