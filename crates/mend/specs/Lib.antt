-- What the contracts of `mend` cite: `Following`, how a ring is told to be sound; `Rebuilt`, a ring made anew; `Mended`, the axis mended; `Altered`, the list of what was altered; `Mend`, the call; `Plan`, an axis as lists
-- of numbers.
pub mod Following
pub mod Rebuilt
pub mod Mended
pub mod Altered
pub mod Mend
pub mod Plan
