-- What the contracts of `mend_words` cite: `Named`, the edges that have a segment; `Mending`, the call.
pub mod Named
pub mod Mending
