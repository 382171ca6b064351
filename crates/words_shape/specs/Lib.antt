-- What the contracts of `words_shape` cite.
pub mod Shape
-- a place in a word list, or none, where the words are not those that are read
pub mod Place
