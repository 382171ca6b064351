-- `Lending`, the call by what the test of its edges tells; `Kept`, which words it can change; and laws of what is read, of the stores, the visits and the pass.
pub mod Readings
pub mod Stores
pub mod Visits
pub mod Passes
pub mod Lending
pub mod Kept
