-- Laws on readings.
pub mod Shapes
pub mod Runs
pub mod Back
