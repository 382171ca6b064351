-- What the contracts of `mend_rings_words` cite.
pub mod Followed
