-- The laws: `Entries`, the list as words; `Records`, one segment and one edge; `Passes`, one record after the other.
pub mod Entries
pub mod Records
pub mod Passes
