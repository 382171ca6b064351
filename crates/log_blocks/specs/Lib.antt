-- What the contracts of `log_blocks` cite: what is printed for a log, and what each call does of it.
pub mod Printed
