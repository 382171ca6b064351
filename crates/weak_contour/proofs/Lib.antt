-- The laws by subject, each over plain variables.
pub mod Writing
pub mod Spans
pub mod Shifts
pub mod Searches
pub mod References
pub mod Points
pub mod Stretch
pub mod Steepness
pub mod Worked
