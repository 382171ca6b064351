-- What the contracts of `path_trip` cite: the path of an outline, by places and by indices of points, the numbers of its steps, and what the functions that find a start and a walk promise each other.
pub mod Path
pub mod Legs
pub mod Doubled
pub mod Numbers
pub mod Trips
