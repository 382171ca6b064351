-- Laws on words, on the fields and records that they are, and on records as words, whatever the record.
pub mod Fields
pub mod Writing
pub mod Tables
pub mod Edges
pub mod Segments
pub mod Places
pub mod RoundTrip
pub mod Typed
pub mod Codecs
pub mod Wholes
pub mod Writes
pub mod Became
pub mod Layouts
