-- The laws of `fit_back_words`: `Putting`, a row and what is put back; `Tests`, what each row needs, by the tests of the call; `Rows`, both rows; `Telling`,
-- what is told.
pub mod Putting
pub mod Tests
pub mod Rows
pub mod Telling
