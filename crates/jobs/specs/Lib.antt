-- What the contracts of `jobs` cite.
pub mod First
pub mod Limits
