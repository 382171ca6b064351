-- The laws by subject: `Euler`, the Euler number by turns; `Ceilings`, columns behind a crossing; `Closed`, chains that close, and the places of curves;
-- `Totals`, rows of changes; `Rows`, rows of
-- pixels read off them.
pub mod Euler
pub mod Ceilings
pub mod Closed
pub mod Totals
pub mod Rows
