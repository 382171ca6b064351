-- What the display shows of an outline, and the words of the laws of it.
pub mod Shown
pub mod Field
pub mod Frames
pub mod Moves
