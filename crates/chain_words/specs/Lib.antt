-- The words of the theorems on what is left of lent records.
pub mod Left
