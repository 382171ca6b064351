-- What the contracts of `mend_amend_words` cite: `Listing`, the list as words; `Amended`, words, records and tables that are altered and listed.
pub mod Listing
pub mod Amended
