-- The laws by subject, each over plain variables: the tests, writing and reading; then that the promises determine the outcomes, and worked values.
pub mod Tested
pub mod Composed
pub mod Rooms
pub mod Determined
pub mod Worked
