-- What the contracts of `words_segment` cite.
pub mod Whole
