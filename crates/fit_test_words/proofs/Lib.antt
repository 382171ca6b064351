-- The laws of `fit_test_words`.
pub mod Rows
