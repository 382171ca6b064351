-- The laws of the guard over lent edges: `Search`, its loop; `Lending`, the call by what the test of its edges tells.
pub mod Search
pub mod Lending
