-- `Lending`, the calls by what the test of their edges tells; `Kept`, which words they can change; and laws of their steps.
pub mod Places
pub mod Upper
pub mod Adjusting
pub mod Lending
pub mod Kept
