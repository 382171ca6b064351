-- The laws of `fit`: rows by hand.
pub mod Worked
