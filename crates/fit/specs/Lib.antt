-- What the contracts of fitting an axis in one call cite: `Numbers`, the numbers of an axis; `Edges` and `Points`, the calls on its edges and on its points in a row; `Fit`, the call.
pub mod Numbers
pub mod Edges
pub mod Points
pub mod Fit
-- what a call hands back, with its answer
pub mod Answer
