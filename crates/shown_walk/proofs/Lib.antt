-- `Walks`, the lines of a contour, point by point.
pub mod Walks
