-- The laws by subject, each over plain variables: `Counts`, how many of a set are below a number; `Lists` and `Follows`, a set listed and followed; `Rounds`,
-- the same set round by round; `Keeping`, the kept segments are the least
-- set; `Choices` and `Places`, packed tables by their places; `Walks` and `Rings`, rings renumbered; `Twice`, packed again; `Calls`, what is tested; `Handing`,
-- what is handed back is accepted again; `Determined`, the call; `Worked`,
-- axes packed by hand; `Filled`, `Stages` and `Edges`, the tables on the way.
pub mod Counts
pub mod Lists
pub mod Follows
pub mod Rounds
pub mod Keeping
pub mod Choices
pub mod Places
pub mod Walks
pub mod Rings
pub mod Twice
pub mod Calls
pub mod Handing
pub mod Determined
pub mod Worked
pub mod Filled
pub mod Stages
pub mod Edges
