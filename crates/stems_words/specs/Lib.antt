-- What the contracts of `stems_words` cite.
pub mod Stems
pub mod Lent
