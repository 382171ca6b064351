-- The laws by subject: steps laid from a list's beginning on, the refusals and the outcome as the code comes to them; `Determined`, that the promise determines
-- the outcome.
pub mod Over
pub mod Wrote
pub mod Determined
