-- Laws on lent words.
pub mod Lents
pub mod Determined
pub mod Holding
pub mod Tested
pub mod Naming
pub mod Counting
pub mod Whole
pub mod Kept
pub mod Moved
pub mod Extents
