-- Laws on remaining edges: `Worked`, the values worked out by hand; `Numbers`, on the way to a position; `Kept`, what visits keep; `Changed` and `Blind`, what
-- the call changes, and that it reads no marks; `Done`, which edges are done;
-- `Between`, where an edge between two comes to lie; `Alike`, edges without their marks.
pub mod Worked
pub mod Numbers
pub mod Kept
pub mod Changed
pub mod Alike
pub mod Blind
pub mod Done
pub mod Between
