-- The laws by subject, each over plain variables; then `Determined`, that the promise determines the outcome, `Changed`, what the call changes, `Handed`, where
-- positions come to and what the call accepts, and `Blind`, that it reads no mark.
pub mod Places
pub mod Reading
pub mod Determined
pub mod Changed
pub mod Handed
pub mod Blind
