-- The words of the theorems on paths: the shape that the steps of a contour have, and the steps that calls hand out one after the other.
pub mod Shape
pub mod Stepping
