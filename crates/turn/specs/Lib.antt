-- What the contracts of `turn` cite.
pub mod Indices
pub mod Turning
-- what a call hands back, with its answer
pub mod Answer
