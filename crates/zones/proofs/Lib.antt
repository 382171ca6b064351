-- Laws on the visit of an edge with a zone; on the pass, `AlikePass`, `ChangedPass`, `TurnsPass` and `Worked`; and on the call, `Determined`, `Anchors`,
-- `Changed`, `Handed` and `Blind`.
pub mod Kept
pub mod Turns
pub mod Straight
pub mod Landed
pub mod Alike
pub mod Settled
pub mod TurnsPass
pub mod ChangedPass
pub mod AlikePass
pub mod Worked
pub mod Determined
pub mod Anchors
pub mod Changed
pub mod Handed
pub mod Blind
