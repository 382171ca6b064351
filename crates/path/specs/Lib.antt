-- What the contracts of `path` cite: what a call hands back, what a call hands out, and the same in lent places.
pub mod Answer
pub mod Handing
pub mod Lending
