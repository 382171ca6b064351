-- Laws on segments that learn their edges where their words stand.
pub mod Marking
