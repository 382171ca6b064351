-- What the contracts of `build_words` cite.
pub mod Edges
pub mod Building
pub mod Lent
