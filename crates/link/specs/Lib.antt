-- CJK linking: the rounds, and the call with its promise (`Linking`).
pub mod Loops
pub mod Pairs
pub mod Rounds
pub mod Steps
pub mod Linking
-- what a call hands back, with its answer
pub mod Answer
