-- Laws on the tests of lent edges: on words, in the one loop, and what the answer tells of a call.
pub mod Refusals
pub mod Holding
pub mod Answers
pub mod Calls
pub mod Order
