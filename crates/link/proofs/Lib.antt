-- Laws on the rounds, and on the call: `Determined`, `Handed`, `Calls`, `Numbers`; `Worked` has values by hand.
pub mod Loops
pub mod Kept
pub mod Within
pub mod Turns
pub mod Holding
pub mod Handing
pub mod Ranges
pub mod Unchanged
pub mod Numbers
pub mod Calls
pub mod Determined
pub mod Handed
pub mod Worked
