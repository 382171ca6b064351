-- The laws by subject: `Extremes`, the least and the largest of numbers; `Ends`, the points of the contours; `Windows`, the window of an outline, and that its
-- picture is white around it; `Clearing`,
-- rows that are cleared; `Reading`, rows that are read off lines and counted.
pub mod Extremes
pub mod Ends
pub mod Windows
pub mod Clearing
pub mod Reading
