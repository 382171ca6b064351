-- What the contracts of `fixed_ratio` cite.
pub mod Ratio
