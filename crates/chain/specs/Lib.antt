-- The words of the theorems on calls in a row.
pub mod Accepts
