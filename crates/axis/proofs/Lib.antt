-- The laws by subject, each over plain variables: `Tests`, tests of numbers and of every place; `Acceptance`, from tests that hold to facts; `Accepting`, and
-- back; `Rings`,
-- walks along rings; `Walks`, what they meet; `Sound`, sound rings; `Worked`, rings by hand; `Visits`, the visits of a pass; `Only`, changes of edges; `Alike`,
-- edges that are alike but for their marks; `Declared`, what every value of the
-- declared types meets; `Equal`, what the library's `==` says of links and directions.
pub mod Tests
pub mod Acceptance
pub mod Accepting
pub mod Rings
pub mod Walks
pub mod Sound
pub mod Worked
pub mod Visits
pub mod Only
pub mod Alike
pub mod Declared
pub mod Equal
