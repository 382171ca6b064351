-- What the contracts of `shown_picture` cite: the window of an outline, and what is counted in its rows.
pub mod Window
pub mod Rows
