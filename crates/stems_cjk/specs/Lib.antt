-- The CJK stem: its numbers (`Cjk`), and the call with its promise (`Hint`).
pub mod Cjk
pub mod Hint
-- what a call hands back, with its answer
pub mod Answer
