-- What the contracts of `log_frame` cite: what a frame is, what writing and reading one do, and what their steps promise each other.
pub mod Limits
pub mod Frame
pub mod Write
pub mod Read
pub mod Steps
-- what a call hands back, with its answer
pub mod Answer
