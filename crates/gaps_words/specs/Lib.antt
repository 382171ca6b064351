-- What the contracts of `gaps_words` cite.
pub mod Find
