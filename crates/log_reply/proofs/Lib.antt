-- The laws: `Reading`, what reading a line says of its answer; `Lengths`, how long a reply is; `Replied`, the reply as the call comes to it; `Held`, the reply
-- to a
-- line of which the beginning is held; `Answers`, that a frame is done or refused by 3; `Determined`, that the promise determines the outcome; `Worked`,
-- document 02's example and others.
pub mod Reading
pub mod Lengths
pub mod Replied
pub mod Held
pub mod Answers
pub mod Determined
pub mod Worked
