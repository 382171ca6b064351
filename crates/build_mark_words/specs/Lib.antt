-- What the contracts of `build_mark_words` cite.
pub mod Marking
