-- What remains of a function, and the place of its code that does it.
pub mod Waiting
pub mod Relation
pub mod Remaining
pub mod Values
pub mod Steps
pub mod Standing
pub mod Columns
pub mod PlacedCalls
pub mod PlacedExprs
pub mod PlacedStmts
pub mod Jumps
