-- Blue zones: the visit of an edge (`Zones`, `Steps`), the pass (`Pass`), the call and its promise (`Call`), and what its theorems say (`Landed`, `Settled`).
pub mod Zones
pub mod Steps
pub mod Landed
pub mod Settled
pub mod Pass
pub mod Call
-- what a call hands back, with its answer
pub mod Answer
