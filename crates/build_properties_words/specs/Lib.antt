-- What the contracts of `build_properties_words` cite: what is read of the words of segments, and the steps as what they make of an axis.
pub mod Reading
pub mod Steps
