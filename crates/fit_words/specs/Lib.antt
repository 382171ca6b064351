-- What the contracts of `fit_words` cite beside those of `fit`.
pub mod Rooms
