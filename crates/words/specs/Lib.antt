-- What the contracts over lent edges and segments share.
pub mod Word
pub mod Field
pub mod Edge
pub mod Segment
pub mod Record
