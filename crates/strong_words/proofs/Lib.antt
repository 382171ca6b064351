-- The laws of the call over lent edges and lists: `Reading`, fields of an edge by their words; `Walks`, lists of which the first places are written anew;
-- `Lending`, the call by what the
-- tests of its edges and lists tell; `Determined`, that it is determined, and what it may change.
pub mod Reading
pub mod Walks
pub mod Lending
pub mod Determined
