-- The laws by subject, each over plain variables.
pub mod Kept
pub mod Turns
pub mod Worked
