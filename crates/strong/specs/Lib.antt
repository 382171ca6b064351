-- What the contracts of `strong` cite.
pub mod Strong
pub mod Steps
