-- Which release the library is of.
pub mod Version
