-- The laws by subject, each over plain variables; then `Determined`, that the promise determines the outcome, and demand 3: `Faithful` and `Bounds`.
pub mod Refusals
pub mod Reaching
pub mod Parts
pub mod Contours
pub mod Steepness
pub mod Determined
pub mod Interpolated
pub mod Neighbours
pub mod Faithful
pub mod Bounds
pub mod OldRange
pub mod Worked
