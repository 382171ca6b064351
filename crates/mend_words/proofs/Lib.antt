-- The laws: `Planning`, what the lists of numbers say of the axis; `Lending`, the call by its tests and its passes; `Kept`,
-- which words can change.
pub mod Planning
pub mod Lending
pub mod Kept
