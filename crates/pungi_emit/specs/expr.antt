-- The instructions of expressions.
pub mod Outputs
