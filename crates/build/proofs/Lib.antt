-- Laws on building: `Determined`, `Handed`, `Blind`, `Calls`; how it comes to them; `Worked` has values by hand.
pub mod Scales
pub mod Joins
pub mod Sound
pub mod Handing
pub mod Calls
pub mod Determined
pub mod Rings
pub mod Rising
pub mod Handed
pub mod Blind
pub mod Worked
