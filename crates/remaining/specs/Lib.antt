-- What the contracts of `remaining` cite: `Plan`, where one edge goes; `Remaining`, the loops and the call.
pub mod Plan
pub mod Remaining
