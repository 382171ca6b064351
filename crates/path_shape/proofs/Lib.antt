-- The theorems: `Ends` and `Shapes`, the shape of a path; `Sequence`, that steps and the whole agree; `Exactly`, that places are exact.
pub mod Ends
pub mod Shapes
pub mod Sequence
pub mod Exactly
