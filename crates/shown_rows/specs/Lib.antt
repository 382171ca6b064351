-- What the contracts of `shown_rows` cite.
pub mod Turns
pub mod Crossing
pub mod Chains
pub mod Changes
pub mod Rows
