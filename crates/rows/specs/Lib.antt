-- The starred rows of document 01: what a row says, the list of rows, and that they hold.
pub mod Row
pub mod Table
