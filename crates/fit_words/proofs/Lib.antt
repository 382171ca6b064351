-- The laws of `fit_words`: the call by its tests and its rows.
pub mod Lending
