-- What the contracts of `axis` cite, and with it every call over edges and segments.
pub mod Limits
pub mod Direction
pub mod Link
pub mod Flags
pub mod Edge
pub mod Mark
pub mod Segment
pub mod Refusals
pub mod Accepted
pub mod Ring
pub mod Visits
pub mod Handed
pub mod Changes
