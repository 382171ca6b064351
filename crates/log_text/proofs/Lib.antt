-- The laws: bytes written one behind the other, the results of a job, and that three bytes hold each.
pub mod Putting
pub mod Results
pub mod Jobs
pub mod Held
