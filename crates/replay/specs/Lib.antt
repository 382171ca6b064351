-- What contracts say of an answer's text.
pub mod Limits
