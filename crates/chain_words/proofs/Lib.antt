-- The law: `Shown`, words of records of their types are within their fields' values; `Edges` and `Segments`, lists over which a call has written its table.
-- Then each call: `Placed`, where
-- positions come to; `Fitted`, over edges; `Built`, over segments; `Turned`, over both, and twice. `Rows`: request #108, the two calls in a row. `Done`: with 0
-- passed over every edge is done.
pub mod Answers
pub mod Shown
pub mod Edges
pub mod Segments
pub mod Placed
pub mod Fitted
pub mod Built
pub mod Turned
pub mod Rows
pub mod Done
