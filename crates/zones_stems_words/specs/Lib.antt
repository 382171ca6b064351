-- What the contract of `zones_stems_words` cites.
pub mod Lent
