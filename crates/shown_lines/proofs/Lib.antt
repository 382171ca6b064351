-- Laws of the lines of a row: coordinates in the field (`Fields`), what lines wind (`Winding`), and curves (`Curves`).
pub mod Fields
pub mod Winding
pub mod Curves
