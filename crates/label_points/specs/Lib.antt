-- Room for the steps of a path.
pub mod Room
