-- What the contracts of `pack_words` cite.
pub mod Pack
