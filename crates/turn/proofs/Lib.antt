-- The laws by subject, each over plain variables: `Fronts`, lists in the other order and lists with a new front; `Places`, tables that are turned over, by
-- their
-- places; `Calls`, what a call has tested; `Twice`, what is turned over twice; `Rings`, rings of what is turned over; `Determined`, the call's outcome;
-- `Blind`, that no mark is read; `Worked`, values by hand.
pub mod Fronts
pub mod Places
pub mod Calls
pub mod Twice
pub mod Rings
pub mod Determined
pub mod Blind
pub mod Worked
