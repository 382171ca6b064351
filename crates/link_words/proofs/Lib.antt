-- `Lending`, the call by what the test of its segments tells; `Kept`, which words it can change; and laws of the rounds.
pub mod Turns
pub mod Pairs
pub mod Serifs
pub mod Settled
pub mod Lending
pub mod Kept
