-- What the contracts of `lowercase_m_words` cite.
pub mod M
pub mod Lent
