-- The laws by subject, each over plain variables; then `Worked`, the definition on values, `Determined`, that the promise determines the outcome, `Handed`,
-- where
-- positions come to, `Changed`, what the call changes, and `Blind`, that it reads no mark.
pub mod Copies
pub mod Arrays
pub mod Shared
pub mod Tabled
pub mod Outcomes
pub mod Worked
pub mod Determined
pub mod Handed
pub mod Changed
pub mod Blind
