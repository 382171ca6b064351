-- What the contracts of `log_reply` cite: the reply to a line.
pub mod Reply
