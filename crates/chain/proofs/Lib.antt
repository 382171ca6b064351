-- `Handed`: what each call hands back with answer 0 is accepted by the calls that come behind it.
-- `Guard`: built edges keep their order where the guard finds nothing. `Points`: and so do points behind edge points and weak points. `Pairs`: which stems it
-- can find lost. `OldRange`: edges of old have the answers of old.
pub mod Handed
pub mod Guard
pub mod Points
pub mod Pairs
pub mod OldRange
