-- What the contracts of `log_digits` cite: digits, bytes and numbers of a line, and what is written over one.
pub mod Digits
