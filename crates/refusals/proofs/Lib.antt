-- The laws: how a call comes to its refusal test by test, what no refusal says of the tests, and the outcome as the code comes to it; `Answers`, what answer 0
-- says.
pub mod Tests
pub mod Answers
-- what outcomes say of tests, the answer behind a question mark, and outcomes told apart
pub mod Outcomes
