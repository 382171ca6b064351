-- The laws by subject, each over plain variables; then `Determined`, that the promise determines the outcome, and `OneByOne`: each outline is aligned as if it
-- were called alone.
pub mod Adding
pub mod Outlines
pub mod Worked
pub mod Determined
pub mod OneByOne
