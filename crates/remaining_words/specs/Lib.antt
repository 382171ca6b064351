-- What the contracts of `remaining_words` cite.
pub mod Lent
