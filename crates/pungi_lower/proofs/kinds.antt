-- A function in which no rule holds is of the kinds that it needs.
pub mod Parts
pub mod Operators
pub mod Statics
pub mod Words
pub mod Calls
pub mod Arguments
pub mod Formats
pub mod Outputs
pub mod Rows
pub mod Callees
pub mod Callable
pub mod Exprs
pub mod Locals
pub mod Stmts
pub mod Functions
