-- The laws by subject, each over plain variables. Rings by numbers: `Sums`, numbers that are met once and are as many as there are, are all met; `Following`,
-- the test in as many steps as there are segments is that of a sound ring;
-- `Rising`, a ring made anew is sound; `Steps`, one step of the test; `Tallies`, segments counted by their edges; `Leads`, rings made anew step by step. Axes:
-- `Places`, mended tables by their places; `Sound`, their rings;
-- `Twice`, what needs no mending, and what was mended; `Indices`, that its indices pass; `Lists`, the length of the list of alterations and when it is empty;
-- `Undone`, the list undone; `Empty`, what an empty list says; `Plan`, that
-- what is made of the lists of an axis is this; `Determined`, the call's outcome; `Worked`, values by hand.
pub mod Sums
pub mod Following
pub mod Rising
pub mod Steps
pub mod Tallies
pub mod Leads
pub mod Places
pub mod Sound
pub mod Twice
pub mod Indices
pub mod Lists
pub mod Undone
pub mod Empty
pub mod Plan
pub mod Determined
pub mod Worked
