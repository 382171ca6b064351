-- The laws that callers cite, by subject, and the values worked out by hand.
pub mod Rounding
pub mod Halves
pub mod Pixels
pub mod Widths
pub mod Quotients
pub mod Interpolation
pub mod Worked
