-- Laws on segments in place.
pub mod Wholes
pub mod Reading
pub mod Writes
pub mod Became
