-- What the contracts of `weak_drag` cite: what the public call does, and what its steps promise each other, and the words of demand 3.
pub mod Drag
pub mod Steps
pub mod Faithful
