-- What the contracts of `lowercase_m_list` cite.
pub mod Table
pub mod M
