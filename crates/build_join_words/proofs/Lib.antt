-- The laws by subject, each over plain variables.
pub mod Readings
pub mod Inserting
pub mod Listings
pub mod Visits
pub mod Loops
