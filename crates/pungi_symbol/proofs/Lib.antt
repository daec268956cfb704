-- In the order of reading: states, questions, answers, steps, runs, Promised, Returned, Worked. The file named after a
-- folder says what is in it.
pub mod Promised
pub mod Returned
pub mod Worked
