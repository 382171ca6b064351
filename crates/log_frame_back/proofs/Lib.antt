-- `RoundTrip`: a frame and its digits. `Undone`: each call undoes the other.
pub mod RoundTrip
pub mod Undone
