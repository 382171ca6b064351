-- What the contracts of `log_lines` cite: the lines of a stream, and what one call takes of a line.
pub mod Lines
pub mod Cutting
