-- What the contracts of `path_places` cite: the float that is a quotient exactly, and places in pixels.
pub mod Exact
pub mod Places
