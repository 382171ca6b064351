-- What the contracts of `words_tables_test` cite.
pub mod Held
