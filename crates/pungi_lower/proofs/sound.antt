-- A function in which no rule holds is sound for the layout, and within its limits.
pub mod Parts
pub mod Calls
pub mod Exprs
pub mod Stmts
pub mod Functions
pub mod Sizes
