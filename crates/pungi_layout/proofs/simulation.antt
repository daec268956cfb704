-- The code does each step of a function, one kind of step after another.
pub mod WorldAnswers
pub mod Operators
pub mod Places
pub mod Calls
pub mod Outputs
pub mod Exprs
pub mod Yielded
pub mod Stmts
pub mod Switch
pub mod EachStep
