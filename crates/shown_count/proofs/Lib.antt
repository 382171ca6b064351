-- The laws by subject: `Accepting`, the refusals in their order and what an accepted outline is; `Handing`, what is handed back, as the code comes to it;
-- `Few`, that both numbers are small; `Determined`,
-- that the promises determine the outcome; `Worked`, refusals by hand.
pub mod Accepting
pub mod Handing
pub mod Few
pub mod Determined
pub mod Worked
