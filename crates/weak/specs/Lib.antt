-- What the contracts of `weak` cite: what the public call does, what its steps promise each other, and the words of demand 3.
pub mod Weak
pub mod Steps
pub mod Faithful
