-- What the contracts of `log_text` cite: the bytes of an answer.
pub mod Answer
