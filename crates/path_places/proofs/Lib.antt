-- That the quotient of a small whole number by a power of two is exact in an f32.
pub mod Exact
