-- `Lending`, the call by what the test of its segments tells; `Kept` and `Room`, which words it can change; `Counts`, how many edges it hands back; and laws of
-- building.
pub mod Scaled
pub mod Back
pub mod Listed
pub mod Built
pub mod Counts
pub mod Lending
pub mod Kept
pub mod Room
