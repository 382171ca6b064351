-- What is needed of edges and points before, and what is gained at the end.
pub mod Order
