-- The instructions of expressions.
pub mod Arguments
pub mod ExprCode
pub mod OutputSteps
