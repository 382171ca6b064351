-- Stems: the plan of a visit (`Plan`, `Visit`, `Steps`), the pass and the call with its promise (`Stems`, `StepsPass`), and what their theorems say (`Centre`, `Handed`, `Thin`).
pub mod Visit
pub mod Plan
pub mod Steps
pub mod Stems
pub mod StepsPass
pub mod Handed
pub mod Centre
pub mod Thin
-- what a call hands back, with its answer
pub mod Answer
-- the position of the last CJK stem, or its absence
pub mod Last
