-- `fit_words::rooms::fit_in` meets its contract.
use mathlib.Core.Path.{sym, ◌∙◌}
use lib.ListN.{length}
use lib.IntN.{pos}
use Rattle.edge_points.specs.Steps.{points}
use Rattle.fit.specs.Fit.{Given, given, Fitted, fitted}
use Rattle.remaining_words.proofs.Copying.{room-long}
use Rattle.fit_back_words.proofs.Tests.{same-marks}
use native.Mathlib.Omega.{arith}
use Rattle.fit_words.proofs.rooms.fit_in.Goals as goal

pub whole_as_slice-room : goal.whole_as_slice-room
whole_as_slice-room g c = omega (arith, c.requires.sizes.0)

pub whole_as_slice-spare : goal.whole_as_slice-spare
whole_as_slice-spare g c = omega (arith, c.requires.sizes.1)

pub whole_as_slice-marks : goal.whole_as_slice-marks
whole_as_slice-marks g c = omega (arith, c.requires.sizes.1)

pub fit_in_rooms-requires : goal.fit_in_rooms-requires
fit_in_rooms-requires g c =
    let a = c.args in
    let gave : Given = given a.segments.now a.standards.now a.fonts.now a.originals.now a.weak.now a.ends.now in
    let lent : Fitted = fitted a.edges.now (points a.currents.now a.touched.now) a.told.now in
    record {
      accepted = c.requires.accepted;
      rooms = record {
        edges_long = room-long g.row.WORDS (length a.edges.now) (pos 0) c.requires.small.0;
        currents_long = room-long g.row.POINTS (length a.currents.now) (pos 0) c.requires.small.1;
        marks_long = room-long g.row.POINTS (length a.currents.now) 0 c.requires.small.1 ∙ sym (same-marks a.by gave lent c.requires.accepted);
      };
    }
