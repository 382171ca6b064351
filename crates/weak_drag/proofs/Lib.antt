-- The laws by subject, each over plain variables; then `Drags`, what a drag is on an aligned buffer and on any other, and `Faithful`, demand 3 of what depends
-- on the point.
pub mod Arcs
pub mod Refitting
pub mod Refusals
pub mod Aligned
pub mod Drags
pub mod Faithful
pub mod Worked
