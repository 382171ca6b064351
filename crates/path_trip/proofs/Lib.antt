-- The laws by subject, each over plain variables: coordinates, and a contour's start and walk; `Pictures`, that a contour's steps are the picture of its legs;
-- `Worked`, small outlines by hand.
pub mod Coordinates
pub mod Walks
pub mod Pictures
pub mod Worked
