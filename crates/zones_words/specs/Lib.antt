-- What the contracts of `zones_words` cite.
pub mod Blues
pub mod Lent
