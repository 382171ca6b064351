-- What the contracts of `shown_lines` cite.
pub mod Lines
