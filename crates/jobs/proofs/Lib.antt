-- `Parts`: a table of edges as a field of a struct, and as a row in two parts.
pub mod Parts
