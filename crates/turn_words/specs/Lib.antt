-- What the contracts of `turn_words` cite.
pub mod Lent
