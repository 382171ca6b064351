-- What the contracts of `strong_words` cite.
pub mod Strong
