-- What the contracts of `words_segment_test` cite.
pub mod Held
