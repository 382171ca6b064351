-- What the contracts of `weak_catalogue` cite: what the public call does, and what its steps promise each other.
pub mod Catalogue
pub mod Steps
