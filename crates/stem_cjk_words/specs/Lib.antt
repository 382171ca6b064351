-- What the contracts of `stem_cjk_words` cite.
pub mod Stem
pub mod Lent
