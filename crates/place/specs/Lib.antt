-- How one edge is placed by others: steps, definitions of the calls, and promises.
pub mod Placing
pub mod Steps
pub mod Thin
pub mod Fitting
-- what a call hands back, with its answer
pub mod Answer
