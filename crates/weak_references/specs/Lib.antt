-- What the contracts of `weak_references` cite: what the public calls do.
pub mod References
