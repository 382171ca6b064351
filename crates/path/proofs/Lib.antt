-- The laws by subject: what is handed out, as the code comes to it, and what is left in lent places; then `Determined`, that the promises determine the
-- outcome, and `Worked`, refusals by hand.
pub mod Named
pub mod Lent
pub mod Determined
pub mod Worked
