-- What the contracts of `remaining_pass_words` cite.
pub mod Words
