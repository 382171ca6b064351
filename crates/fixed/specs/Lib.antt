-- Document 01, "Helpers, completed" and module 1.
pub mod Point
pub mod Divide
pub mod Pixel
pub mod Width
pub mod Steps
-- what fixed divide answers: the quotient, or none where its magnitude is beyond 2,147,483,647
pub mod Quotient
