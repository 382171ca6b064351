-- `Lending`, the call by what the test of its edges tells; `Kept`, which words it can change; and laws of the stores, the visits and the pass.
pub mod Stores
pub mod Bounds
pub mod Visits
pub mod Passes
pub mod Lending
pub mod Kept
