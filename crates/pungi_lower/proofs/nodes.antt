-- How many nodes and instructions the text of a function becomes.
pub mod Parts
pub mod Calls
pub mod Exprs
pub mod Stmts
