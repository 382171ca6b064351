-- What the contracts of `shown_count` cite: what a call hands back, and what counting promises.
pub mod Answer
pub mod Count
