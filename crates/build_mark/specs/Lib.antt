-- What the contracts of `build_mark` cite: how segments learn their edges, and what the steps promise each other.
pub mod Marks
pub mod Steps
