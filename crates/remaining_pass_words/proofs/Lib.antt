-- Laws on remaining edges in place: `Finding`, the done edges around an edge; `Reading`, what is read of edges; `Plans`, which plan is made; `Stores`;
-- `Visits`, one visit; `Passes`, the loops.
pub mod Finding
pub mod Reading
pub mod Plans
pub mod Stores
pub mod Visits
pub mod Passes
