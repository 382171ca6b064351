-- Blue zones and then stems: the definition and the promise, and what cannot be reached in it.
pub mod Joined
pub mod Unreached
