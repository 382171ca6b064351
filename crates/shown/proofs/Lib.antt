-- The laws by subject. `Counts`: the counts of a picture that is white around a window, and the Euler number by turns; `White`: which pixels are white;
-- `Limits`:
-- how large both numbers can be; `Told`: that a winding modulo 65,536 tells a black pixel; then what changes neither number, `Turned` and `Moved`, and what
-- shows
-- nothing, `Flat`. They lean on `Tours`, `Places`, `Crossings`, `Tallies` and `Outlines`: the points, places and lines of an outline. `Worked`: a square,
-- moved.
pub mod Worked
pub mod Counts
pub mod Tours
pub mod Places
pub mod Crossings
pub mod Tallies
pub mod Outlines
pub mod White
pub mod Limits
pub mod Told
pub mod Turned
pub mod Flat
pub mod Moved
pub mod WorkedMoves
