-- The laws by subject, each over plain variables.
pub mod Readings
pub mod Stores
pub mod Visits
pub mod Rings
pub mod Passes
pub mod Unread
