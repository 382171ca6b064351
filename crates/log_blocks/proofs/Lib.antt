-- The laws: `Appended`, one reply more; `Onward`, one turn of the loop over a block; `Whole`, that the calls print what is printed for the stream, wherever its
-- blocks are cut.
pub mod Appended
pub mod Onward
pub mod Whole
