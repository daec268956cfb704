-- In the order of reading: states, questions, answers, runs, Promises. The file named after a folder says what is in
-- it.
pub mod states
pub mod questions
pub mod answers
pub mod runs
pub mod Promises
