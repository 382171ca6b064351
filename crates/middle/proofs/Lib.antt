-- The laws of wrapping around, that the promises determine their answers, and the values worked out by hand.
pub mod Wrapping
pub mod Determined
pub mod Worked
