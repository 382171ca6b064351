-- What the contracts of `path_whole` cite.
pub mod Writing
