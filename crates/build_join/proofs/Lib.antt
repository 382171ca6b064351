-- The laws by subject, each over plain variables.
pub mod Passing
pub mod Members
pub mod Rings
pub mod Stems
pub mod Settling
pub mod Good
pub mod Steps
pub mod Searching
pub mod Turns
pub mod Rising
pub mod Loops
