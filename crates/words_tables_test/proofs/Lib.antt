-- Laws on the tests of lent segments and edges together.
pub mod Tables
