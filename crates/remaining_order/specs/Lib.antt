-- `Behind`, remaining edges behind the stem pass; `Order`, what is needed of edges before, so that all are in order behind remaining edges.
pub mod Behind
pub mod Order
