-- The laws on steps laid one behind the other, each over plain variables.
pub mod Lays
pub mod Turns
