-- What the contracts of `words_edge` cite: `Whole`, the words of edges and what they become; `Pass`, what a visit of a pass makes of them.
pub mod Whole
pub mod Pass
