-- What the contracts of jobs cite.
pub mod Limits
