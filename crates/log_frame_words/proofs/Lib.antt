-- The calls over lent places by what they hand back.
pub mod Lending
