-- The laws by subject: `Readings`, what is read of segments where their words stand; `Moves`, segments moved down and places emptied; `Edges`, edges
-- renumbered.
pub mod Readings
pub mod Moves
pub mod Edges
