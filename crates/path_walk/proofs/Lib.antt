-- The laws by subject, each over plain variables: the step of a number, and how many steps a path has.
pub mod Seeks
pub mod Lengths
