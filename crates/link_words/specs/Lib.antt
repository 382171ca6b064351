-- What the contracts of `link_words` cite.
pub mod Linking
pub mod Lent
