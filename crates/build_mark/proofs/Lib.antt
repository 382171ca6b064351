-- The laws of `build_mark`, over plain variables.
pub mod Marking
