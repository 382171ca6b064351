-- The laws by subject: `Scales`, what one scale says of edges and points; `Against`, where a strong point comes to against an edge; `Placed`, the touched
-- points, by an edge or as strong points,
-- and any two of them; then `Fit`, the theorem, of the calls in a row and of the one call; `Worked`, values by hand.
pub mod Scales
pub mod Against
pub mod Placed
pub mod Fit
pub mod Worked
