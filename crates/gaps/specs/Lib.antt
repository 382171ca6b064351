-- What the contracts of `gaps` cite.
pub mod Gaps
pub mod Steps
-- what a call hands back, with its answer
pub mod Answer
