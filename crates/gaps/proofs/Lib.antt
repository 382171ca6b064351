-- The laws by subject, each over plain variables: `Rows`, which pixel rows are between two positions; `Losing`, when a pair is gone; `Widths`, that widths fit;
-- `Firsts`,
-- how many numbers pass a test, and the first; `Lasts`, the last; `Ends`, which edges end lost pairs; `Turns`, the search edge by edge. Of the call:
-- `Determined`, what is found;
-- `Order`, that rows and order are kept where nothing is; `Unread`, what is not read; `Worked`, values by hand.
pub mod Rows
pub mod Losing
pub mod Widths
pub mod Firsts
pub mod Lasts
pub mod Ends
pub mod Turns
pub mod Determined
pub mod Order
pub mod Unread
pub mod Worked
