-- What the contracts of `weak_contour` cite: document 01's limits of an outline, what becomes of one contour's points, and what the steps promise each other.
pub mod Limits
pub mod Contour
pub mod Steps
