-- `Read`, what is read of a segment where its words stand; `Visit`, one segment's visit; `Passing`, all of them; `Tests`, the tests of the call; `Lending`, the
-- call by its tests and its pass; `Determined`,
-- what the call leaves.
pub mod Read
pub mod Visit
pub mod Passing
pub mod Tests
pub mod Lending
pub mod Determined
