-- Laws on placing one edge, and on the calls that do it: `Determined`, `ChangedCalls`, `Handed`, `Blind`, `ThinCalls`; `Worked` has values by hand.
pub mod Reach
pub mod Neighbours
pub mod Changed
pub mod Thin
pub mod Alike
pub mod Determined
pub mod ChangedCalls
pub mod Handed
pub mod ThinCalls
pub mod Blind
pub mod Worked
