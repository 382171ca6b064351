-- What the contracts of `lowercase_m` cite.
pub mod M
pub mod Steps
-- what a call hands back, with its answer
pub mod Answer
