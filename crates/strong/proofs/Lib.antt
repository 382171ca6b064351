-- The laws by subject, each over plain variables: `Search`, which edge is found; `Places`, where a point comes to, case by case, and that its sums, quotient
-- and product fit. Of the
-- definition: `Order`, that points keep their order; `Determined`, what becomes of the points of an outline; `Worked`, values by hand.
pub mod Search
pub mod Places
pub mod Order
pub mod Determined
pub mod Worked
-- what an outcome's variant tells of its answer
pub mod Told
