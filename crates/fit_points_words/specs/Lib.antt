-- What the contracts of `fit_points_words` cite.
pub mod Row
