-- The laws of `fit_points_words`: each step of the row.
pub mod Steps
