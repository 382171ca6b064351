-- What the contracts of `path_walk` cite: a step of a list of steps, or how far a number is behind its end, and what the functions on the way to a step promise each other.
pub mod Sought
pub mod Steps
