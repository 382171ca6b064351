-- Laws on the call: whether edges have zones where the group has none, what its passes may use, by what the test of its edges tells, and which words it can
-- change.
pub mod Zoning
pub mod Passing
pub mod Lending
pub mod Kept
