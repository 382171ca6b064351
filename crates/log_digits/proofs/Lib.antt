-- The laws by subject, each over plain variables: digits, lines of digits, what is written over a line, and numbers.
pub mod Characters
pub mod Lines
pub mod Writing
pub mod Numbers
