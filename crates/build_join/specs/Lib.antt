-- What the contracts of `build_join` cite: the groups of segments that make edges, and what the steps promise each other.
pub mod Joining
pub mod Walks
