-- The laws of `fit_edges_words`: `Kin`, what steps leave of edges; `Joining`, blue zones and stems; `Steps`, each other step.
pub mod Kin
pub mod Joining
pub mod Steps
