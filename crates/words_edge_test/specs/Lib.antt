-- What the contracts of `words_edge_test` cite.
pub mod Held
