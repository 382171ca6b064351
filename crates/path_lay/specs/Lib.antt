-- What the contracts of `path_lay` cite.
pub mod Laying
