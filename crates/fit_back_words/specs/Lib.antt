-- What the contracts of `fit_back_words` cite.
pub mod Back
