-- `Runs`, the points of a walk as one or two runs; `Moves`, points moved one after the other; `Walks`, both in a segment's walk.
pub mod Worked
pub mod Runs
pub mod Moves
pub mod Walks
