-- The laws by subject, each over plain variables.
pub mod Entries
pub mod Comparing
pub mod Walking
pub mod Rounds
pub mod Remembering
pub mod Fitting
pub mod Agreeing
pub mod Aligning
pub mod Listed
pub mod Inserted
pub mod Worked
