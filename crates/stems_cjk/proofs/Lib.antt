-- Laws on the numbers of the CJK stem, and on the call: `Determined`, `Changed`, `Handed`, `Blind`, `ThinHint`; `Worked` has values by hand.
pub mod Moves
pub mod Thin
pub mod Alike
pub mod Determined
pub mod Changed
pub mod Handed
pub mod ThinHint
pub mod Blind
pub mod Worked
