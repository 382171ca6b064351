-- Laws on remaining edges over lent edges: `Copying`, words copied; `Trying`, the loops over a copy; `Lending`, the call by what the test of its edges tells;
-- `Kept`, which words it can change;
-- `Determined`, that the promise allows one outcome.
pub mod Copying
pub mod Trying
pub mod Lending
pub mod Kept
pub mod Determined
