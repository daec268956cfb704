-- What is known after an answer, and what a state becomes by it.
pub mod KnownAfter
pub mod SymbolicState
