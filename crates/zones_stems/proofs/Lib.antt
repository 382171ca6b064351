-- `Determined`, `Changed`, `Handed`, `Blind`; `Rows`: the two calls in a row; `Unreached`: the fallback; `Worked` has values by hand.
pub mod Rows
pub mod Unreached
pub mod Worked
pub mod Determined
pub mod Changed
pub mod Handed
pub mod Blind
