-- What the contracts of `build_properties` cite.
pub mod Properties
pub mod Outcomes
pub mod Steps
