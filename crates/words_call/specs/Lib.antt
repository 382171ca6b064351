-- What every call over lent words promises, and which words it leaves.
pub mod Lent
pub mod Kept
pub mod Held
