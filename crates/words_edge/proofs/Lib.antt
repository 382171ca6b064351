-- Laws on edges in place.
pub mod Wholes
pub mod Reading
pub mod Writes
pub mod Became
pub mod Passes
