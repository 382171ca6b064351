-- What the refusals of every call are.
pub mod Refusal
-- what an outcome is, and its answer
pub mod Outcome
