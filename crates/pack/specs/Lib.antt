-- What the contracts of `pack` and of the call over lent words cite: `Kept`, which segments are kept; `Packed`, what becomes of an axis; `Call`, the call; `Sets`, `Rounds` and `Listing`, sets of numbers.
pub mod Sets
pub mod Rounds
pub mod Listing
pub mod Kept
pub mod Packed
pub mod Call
