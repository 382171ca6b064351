-- What the contracts of `fit_edges_words` cite.
pub mod Row
