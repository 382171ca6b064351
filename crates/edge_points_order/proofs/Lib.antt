-- The laws by subject: `Edges`, edges in order by their neighbours and by the guard; `Moved`, what a point comes to, by the edge that moves it last;
-- `Between`, where an original comes to against its references; `Neighbours`, points that edges have placed, and weak points behind them; then `Chain`, the
-- theorem; `Worked`, what each of its hypotheses is needed for.
pub mod Edges
pub mod Moved
pub mod Between
pub mod Neighbours
pub mod Chain
pub mod Worked
