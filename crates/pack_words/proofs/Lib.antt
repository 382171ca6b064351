-- The laws: `Sounding`, rings told sound; `Lending`, the call by its tests and its steps; `Determined`, what the call leaves.
pub mod Sounding
pub mod Lending
pub mod Determined
