-- What the contracts of `place_words` cite.
pub mod Placing
pub mod Lent
