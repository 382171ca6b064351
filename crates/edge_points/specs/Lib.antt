-- From edges to points: the definition of the call, and what the steps of a segment's walk promise each other.
pub mod EdgePoints
pub mod Steps
