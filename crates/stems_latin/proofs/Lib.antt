-- The laws by subject, each over plain variables; `Chosen` is request #112, `Drawn` request #102; and the values worked out by hand.
pub mod Choices
pub mod Chosen
pub mod Moves
pub mod Drawn
pub mod Worked
