-- What the contracts of `build_join_words` cite: what is read of the words, and the lists that stand for a state of joining.
pub mod Reading
pub mod Lists
