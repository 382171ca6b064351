-- Building: refusals, definition and promise.
pub mod Building
-- what a call hands back, with its answer
pub mod Answer
