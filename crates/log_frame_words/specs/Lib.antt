-- What the contracts of `log_frame_words` cite.
pub mod Lent
