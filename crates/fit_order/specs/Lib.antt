-- What is needed of edges and points before, and what is gained of touched points at the end.
pub mod Order
