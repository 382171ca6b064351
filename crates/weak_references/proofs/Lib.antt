-- The laws by subject, each over plain variables; then `Equal`, that a remembered list is never refused by 9 and gives what alignment without gives, and that
-- both promises determine their outcomes.
pub mod Refusals
pub mod Equal
pub mod Worked
