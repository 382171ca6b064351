-- The words of the theorems on frames there and back.
pub mod Back
