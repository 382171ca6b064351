-- What the contracts of `edge_points_words` cite: `Align`, what the call promises, and `Steps`, what its steps need; `Kept` says which points it can change.
pub mod Align
pub mod Steps
pub mod Kept
