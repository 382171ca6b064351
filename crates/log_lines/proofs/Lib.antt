-- The laws: `Turns`, one turn of the cutter's loop; `Streams`, what the calls say of the lines of a stream, wherever its blocks are cut; `Spelt`, that the
-- lines
-- are the stream; `Worked`, lines worked out by hand; `Determined`, that the promise determines the outcome.
pub mod Turns
pub mod Streams
pub mod Spelt
pub mod Worked
pub mod Determined
